-- The values that are left decide.
use Rattle.std.proofs.Common.{◌≡◌, drop}
use Rattle.serde_json.specs.View.{items_view}
use Rattle.npm_advisories.specs.KnownIds as KnownIds
use Rattle.npm_advisories.proofs.known.any_is.Given as goal

abbrev pub invariant-loop-value : goal.invariant-loop-value
invariant-loop-value l = KnownIds.any_is l.id (items_view l.values)
    ≡ KnownIds.any_is l.id (items_view (drop l.value-index l.values))
