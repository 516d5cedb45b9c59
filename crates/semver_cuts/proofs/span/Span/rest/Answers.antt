use Rattle.std.proofs.lemmas.Grind.{common_steps}
use native.Mathlib.Omega.{arith}
use Rattle.std.proofs.Common.{◌≡◌, subst, sym, true}
use Rattle.semver_cuts.specs.Ends.{span_between}
use Rattle.semver_cuts.specs.SpanDifference.{spans_share}
use Rattle.semver_cuts.specs.Lemmas.SpanDifference.{above-shared}
use Rattle.semver_cuts.specs.Lemmas.SpanDifference.{below-shared, pieces-cuts, share-from_some}
use Rattle.semver_cuts.proofs.span.Span.rest.Goals as goal

pub returns-in-Some-clause-below : goal.returns-in-Some-clause-below
returns-in-Some-clause-below g c =
    let share = share-from_some g.T.Ord.cmp c.args.self.now c.args.other.now _ c.in-Some.ensures.ends in
    grind (arith, common_steps, below-shared g.T.Ord.cmp c.args.self.now c.args.other.now share)

pub returns-in-Some-clause-above : goal.returns-in-Some-clause-above
returns-in-Some-clause-above g c =
    let share = share-from_some g.T.Ord.cmp c.args.self.now c.args.other.now _ c.in-Some.ensures.ends in
    grind (arith, common_steps, above-shared g.T.Ord.cmp c.args.self.now c.args.other.now share)

pub returns-in-Some-clause-cuts : goal.returns-in-Some-clause-cuts
returns-in-Some-clause-cuts g c =
    let one = span_between c.self.inside.lower c.self.inside.upper in
    let other = span_between c.other.inside.lower c.other.inside.upper in
    let share = share-from_some g.T.Ord.cmp c.args.self.now c.args.other.now _ c.in-Some.ensures.ends in
    let here : spans_share g.T.Ord.cmp one other ≡ true =
    subst (λ span. spans_share g.T.Ord.cmp span other ≡ true) (sym c.self.view_is)
    (subst (λ span. spans_share g.T.Ord.cmp c.args.self.now span ≡ true) (sym c.other.view_is) share) in
    rw c.ends_if_any.ensures (rw c.ends_if_any-in-Some.ensures (rw (← c.self.view_is) (rw (← c.other.view_is)
    (pieces-cuts g.met.T.Ord.total one other c.self.invariant c.other.invariant here))))
