-- The place so far, and that of the values that are left.
use Rattle.std.proofs.Common.{◌≡◌, drop}
use Rattle.serde_json.specs.View.{items_view}
use Rattle.npm_advisories.specs.KnownIds.{any_is}
use Rattle.npm_lock_reports.specs.Exceptions.{exceptions_value}
use Rattle.npm_lock_reports.specs.Private.Places.{earlier, first_by}
use Rattle.npm_lock_reports.proofs.indexed.Indexed.place_of_any.Given as goal

abbrev pub invariant-loop-value : goal.invariant-loop-value
invariant-loop-value l = earlier l.first (first_by (exceptions_value l.self.exceptions) l.name (λ known. any_is known (items_view (drop l.value-index l.values))))
    ≡ first_by (exceptions_value l.self.exceptions) l.name (λ known. any_is known (items_view l.values))
