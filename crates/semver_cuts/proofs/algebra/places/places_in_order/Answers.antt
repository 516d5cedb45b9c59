use Rattle.std.proofs.lemmas.Grind.{common_steps}
use native.Mathlib.Omega.{arith}
use Rattle.std.proofs.Common.{◌≡◌, ◌+◌, ℕ, ap, List, [], ◌∷◌, ◌++◌, drop, length, refl, subst, sym, ◌∙◌}
use Rattle.std.proofs.lemmas.List.{drop_all}
use Rattle.std.specs.Ordering.{is_lt, nat_cmp, ordering_then}
use Rattle.semver_cuts.specs.Cut.{cut_cmp}
use Rattle.semver_cuts.specs.Ends.{Ends}
use Rattle.semver_cuts.specs.Private.Placed.{AreJoinedAt}
use Rattle.semver_cuts.specs.Lemmas.Ends.{at_most-from_not_lt, below-from_lt}
use Rattle.semver_cuts.proofs.Joining.JoinedPlaces.{running-first, running-longer, running-moved, running-next}
use Rattle.semver_cuts.proofs.Joining.JoinedPlaces.{running-over, running-same}
use Rattle.semver_cuts.proofs.Joining.JoinedSpans.{none-joined}
use Rattle.semver_cuts.proofs.Joining.PlacedOrder.{later-tested}
use Rattle.semver_cuts.proofs.LoopSteps.{here}
use Rattle.semver_cuts.proofs.algebra.places.places_in_order.Goals as goal
use Rattle.semver_cuts.proofs.algebra.places.places_in_order.Goals.{then-lt+in_ok-push, else-lt+then-ends_later}
use Rattle.semver_cuts.proofs.algebra.places.places_in_order.Goals.{else-lt+else-ends_later}

none : {X : Type 0} (xs : List X) → length xs ≡ 0 → xs ≡ []
none [] e = refl
none (x ∷ xs) e = cc

pub returns-in_default : goal.returns-in_default
returns-in_default g c = λ spans s. grind (
  arith,
  common_steps,
  none-joined g.met.T.Ord.total spans c.args.order.now s,
  none,
)

pub loop-next-init : goal.loop-next-init
loop-next-init g c = λ spans s.
    let first = running-first g.met.T.Ord.total spans c.args.order.now s c.in-Some.first.now c.in-Some.later.now in
    grind (arith, common_steps, first)

pub loop-next-preserved : goal.loop-next-preserved
loop-next-preserved g c = λ spans s.
    let o = g.met.T.Ord.total in
    let loop = c.loop-next in
    let order = c.args.order.now in
    let next = c.next-item.result in
    let rest = drop (loop.next-index + 1) c.in-Some.later.now in
    let is = running-moved o spans order s loop.pairs.items _ loop.begun _ loop.place _ loop.upper.now _ _
    (next ∷ rest) refl refl refl refl
    (here c.in-Some.later.now loop.next-index next c.loop-next-test.true c.next-item.is) (loop.invariant spans s) in
    let begins = ap (λ (span : Ends g.row.T.Denot). is_lt (cut_cmp g.T.Ord.cmp loop.upper.now span.lower))
    c.ends-ends.ensures.ends in
    let ends = ap (λ (span : Ends g.row.T.Denot). is_lt (ordering_then (cut_cmp g.T.Ord.cmp loop.upper.now span.upper)
    (nat_cmp next.place loop.place))) c.ends-ends.ensures.ends
    ∙ ap (λ (n : ℕ). is_lt (ordering_then (cut_cmp g.T.Ord.cmp loop.upper.now c.ends-ends.result.1.now)
    (nat_cmp n loop.place))) (sym c.place-found.ensures) in
    elim c.if-lt.branch [
      | then-lt+in_ok-push w ↦ running-moved o spans order s (loop.pairs.items ++ (loop.begun, loop.place) ∷ []) _
          next.place _ next.place _ next.span.upper _ rest _
          (sym ((λ i. (w.pairs-is i).items) ∙ w.in_ok-push.ensures.items)) (sym (w.begun-is ∙ c.place-found.ensures))
          (sym (w.place-is ∙ c.place-found.ensures)) ((λ i. (c.ends-ends.ensures.ends i).upper) ∙ sym
          (λ i. (w.upper-is i).now))
          refl (running-next o spans order s loop.pairs.items loop.begun loop.place loop.upper.now next rest is
          (below-from_lt g.T.Ord.cmp loop.upper.now next.span.lower (begins ∙ sym c.lt.ensures ∙ w.if-lt.true)))
      | else-lt+then-ends_later w ↦ running-moved o spans order s loop.pairs.items _ loop.begun _ next.place _
          next.span.upper _ rest _ (sym (λ i. (w.pairs-is i).items)) (sym w.begun-is)
          (sym (w.place-is ∙ c.place-found.ensures)) ((λ i. (c.ends-ends.ensures.ends i).upper) ∙ sym
          (λ i. (w.upper-is i).now))
          refl (running-longer o spans order s loop.pairs.items loop.begun loop.place loop.upper.now next rest is
          (at_most-from_not_lt o loop.upper.now next.span.lower (begins ∙ sym c.lt.ensures ∙ w.if-lt.false))
          (later-tested o loop.upper.now loop.place next _ (ends ∙ sym w.ends_later.ensures ∙ w.if-ends_later.true)))
      | else-lt+else-ends_later w ↦ running-moved o spans order s loop.pairs.items _ loop.begun _ loop.place _
          loop.upper.now _ rest _ (sym (λ i. (w.pairs-is i).items)) (sym w.begun-is) (sym w.place-is)
          (sym (λ i. (w.upper-is i).now)) refl
          (running-same o spans order s loop.pairs.items loop.begun loop.place loop.upper.now next rest is
          (at_most-from_not_lt o loop.upper.now next.span.lower (begins ∙ sym c.lt.ensures ∙ w.if-lt.false))
          (later-tested o loop.upper.now loop.place next _ (ends ∙ sym w.ends_later.ensures ∙ w.if-ends_later.false)))
    ]

pub returns : goal.returns
returns g c = λ spans s.
    let o = g.met.T.Ord.total in
    let loop = c.loop-next in
    subst (AreJoinedAt g.T.Ord.cmp spans) (sym (c.shrink.ensures ∙ c.in_ok-push-2.ensures.items))
    (running-over o spans c.args.order.now s loop.pairs.items loop.begun loop.place loop.upper.now
    (running-moved o spans c.args.order.now s loop.pairs.items _ loop.begun _ loop.place _ loop.upper.now _ _ []
    refl refl refl refl (drop_all loop.next-index c.in-Some.later.now c.loop-next-test.false) (loop.invariant spans s)))
