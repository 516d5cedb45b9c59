-- One value more, and all of them.
use Rattle.std.proofs.Common.{arith}
use Rattle.serde_json.specs.View.{items_view}
use Rattle.npm_advisories.specs.KnownIds.{any_is}
use Rattle.npm_lock_reports.specs.Exceptions.{exceptions_value}
use Rattle.npm_lock_reports.specs.Private.Places.{first_by}
use Rattle.npm_lock_reports.proofs.KnownPlaces.{all-values, one-value}
use Rattle.npm_lock_reports.proofs.indexed.Indexed.place_of_any.Goals as goal

pub loop-value-preserved : goal.loop-value-preserved
loop-value-preserved c = rw c.earlier-first.ensures (one-value (exceptions_value c.args.self.now.exceptions) c.args.name.now c.args.values.now
    c.loop-value.value-index c.value-item.result c.loop-value-test.true c.value-item.is c.loop-value.first _
    (first_by (exceptions_value c.args.self.now.exceptions) c.args.name.now (λ known. any_is known (items_view c.args.values.now)))
    c.in_ok-place_of_value.ensures c.loop-value.invariant)

pub returns : goal.returns
returns c = all-values (exceptions_value c.args.self.now.exceptions) c.args.name.now c.args.values.now c.loop-value.value-index
    (omega (arith, c.loop-value-test.false)) c.loop-value.first
    (first_by (exceptions_value c.args.self.now.exceptions) c.args.name.now (λ known. any_is known (items_view c.args.values.now)))
    c.loop-value.invariant
