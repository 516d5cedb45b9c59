use Rattle.std.proofs.Common.{◌≡◌, ◌+◌, ◌↔◌, List, [], ◌∷◌, Ordering, ap, arith, drop, length, refl, subst, sym, ◌∙◌}
use mathlib.Core.Bool.{true≢false}
use Rattle.std.proofs.lemmas.List.{drop_all}
use Rattle.semver_cuts.specs.Ends.{Ends, span_between}
use Rattle.semver_cuts.specs.Joined.{AreMerged}
use Rattle.semver_cuts.proofs.Joining.ApartLoop.{seen-next, seen-touching}
use Rattle.semver_cuts.proofs.LoopSteps.{at_most-from_ge, below-from_not_ge}
use Rattle.semver_cuts.proofs.algebra.places.are_merged.Goals as goal

-- an empty list is merged
none-merged : {T : Type 0} (cmp : T → T → Ordering) (spans : List (Ends T)) → length spans ≡ 0 → AreMerged cmp spans
none-merged cmp [] none = record { rising = tt; apart = tt }
none-merged cmp (span ∷ spans) none = absurd (omega arith)

pub returns-in_default : goal.returns-in_default
returns-in_default g c = (
  λ e. none-merged g.T.Ord.cmp c.args.spans.now c.in_default.ensures.cases,
  λ merged. refl,
)

pub offset_bounds-others-span-index : goal.offset_bounds-others-span-index
offset_bounds-others-span-index g c = omega (arith, c.loop-span-test.true)

pub loop-span-init : goal.loop-span-init
loop-span-init g c = record {
  rising = c.ends-last.ensures.rising;
  merged = subst (λ l. AreMerged g.T.Ord.cmp c.args.spans.now ↔ AreMerged g.T.Ord.cmp l)
      (c.in-Some.ensures.cases.0 ∙ ap (λ s. s ∷ c.in-Some.others.now) c.ends-last.ensures.ends)
      (λ are. are, λ are. are);
}

pub loop-span-preserved : goal.loop-span-preserved
loop-span-preserved g c =
    let loop = c.loop-span in
    let last = span_between loop.last.0.now loop.last.1.now in
    let next = span_between c.ends-ends.result.0.now c.ends-ends.result.1.now in
    record {
      rising = c.ends-ends.ensures.rising;
      merged = subst (λ s. AreMerged g.T.Ord.cmp c.args.spans.now
          ↔ AreMerged g.T.Ord.cmp (s ∷ drop (loop.span-index + 1) c.in-Some.others.now)) c.ends-ends.ensures.ends
          (seen-next g.met.T.Ord.total c.args.spans.now c.in-Some.others.now last c.span-item.result loop.span-index
          loop.invariant.merged c.loop-span-test.true c.span-item.is loop.invariant.rising
          (rw c.ends-ends.ensures.ends (below-from_not_ge g.T.Ord.cmp last.upper next.lower
          (sym c.ge.ensures ∙ c.if-ge.false))));
    }

pub returns-then-ge : goal.returns-then-ge
returns-then-ge g c =
    let loop = c.loop-span in
    let last = span_between loop.last.0.now loop.last.1.now in
    let next = span_between c.ends-ends.result.0.now c.ends-ends.result.1.now in (
      λ e. absurd (true≢false (sym e)),
      λ merged. absurd (seen-touching g.met.T.Ord.total c.args.spans.now c.in-Some.others.now last c.span-item.result
          loop.span-index loop.invariant.merged c.loop-span-test.true c.span-item.is
          (rw c.ends-ends.ensures.ends (at_most-from_ge g.met.T.Ord.total last.upper next.lower
          (sym c.ge.ensures ∙ c.if-ge.true))) merged),
    )

pub returns : goal.returns
returns g c =
    let loop = c.loop-span in (
      λ e. loop.invariant.merged.1 (subst (λ l. AreMerged g.T.Ord.cmp
          (span_between loop.last.0.now loop.last.1.now ∷ l))
          (sym (drop_all loop.span-index c.in-Some.others.now c.loop-span-test.false))
          (record { rising = (loop.invariant.rising, tt); apart = tt })),
      λ merged. refl,
    )
