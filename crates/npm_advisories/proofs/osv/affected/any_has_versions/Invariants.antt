-- The ranges that are left decide.
use Rattle.std.proofs.Common.{◌≡◌, drop}
use Rattle.serde_json.specs.View.{items_view}
use Rattle.npm_advisories.specs.OsvFaults as Faults
use Rattle.npm_advisories.proofs.osv.affected.any_has_versions.Given as goal

abbrev pub invariant-loop-range : goal.invariant-loop-range
invariant-loop-range l = Faults.any_has_versions (items_view l.ranges)
    ≡ Faults.any_has_versions (items_view (drop l.range-index l.ranges))
