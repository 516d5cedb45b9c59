-- The events that are left decide.
use Rattle.std.proofs.Common.{◌≡◌, drop}
use Rattle.serde_json.specs.View.{items_view}
use Rattle.npm_advisories.specs.OsvFaults as Faults
use Rattle.npm_advisories.proofs.osv.events.any_introduced.Given as goal

abbrev pub invariant-loop-event : goal.invariant-loop-event
invariant-loop-event l =
    Faults.any_introduced (items_view l.events) ≡ Faults.any_introduced (items_view (drop l.event-index l.events))
