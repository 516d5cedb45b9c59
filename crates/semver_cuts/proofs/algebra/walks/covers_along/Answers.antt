use Rattle.std.proofs.lemmas.Grind.{common_steps}
use Rattle.std.proofs.Common.{◌<◌, arith, inl, inr, refl, subst, sym, ⊎_elim, ◌∙◌}
use mathlib.Core.Bool.{true≢false}
use Rattle.semver_cuts.specs.Ends.{span_between}
use Rattle.semver_cuts.specs.SpanLists.{IsInSome}
use Rattle.semver_cuts.specs.Lemmas.Ends.{at_most-from_le, at_most-from_not_lt, below-from_lt, below-from_not_le}
use Rattle.semver_cuts.proofs.Walks.{covered, none-from, not-covered, passed, some-from, uncovered}
use Rattle.semver_cuts.proofs.algebra.walks.covers_along.Goals as goal
use Rattle.semver_cuts.proofs.algebra.walks.covers_along.Goals.{then-lt, else-lt}

pub returns-then-place-count : goal.returns-then-place-count
returns-then-place-count g c =
    let loop = c.loop-other_place in
    let found = some-from g.met.T.Ord.total c.args.others.now.merged c.len-other_count.ensures.joined.merged
    loop.other_place (omega arith) in
    not-covered g.met.T.Ord.total c.args.ones.now.list c.args.others.now.list c.args.ones.now.merged
    c.args.others.now.merged c.len-count.ensures.joined c.len-other_count.ensures.joined loop.place loop.other_place
    loop.invariant.passed
    (found.0, found.1, none-from g.met.T.Ord.total c.args.ones.now.merged loop.place (omega arith) found.0)

pub loop-other_place-preserved-then-le : goal.loop-other_place-preserved-then-le
loop-other_place-preserved-then-le g c =
    let loop = c.loop-other_place in
    let one = span_between c.ends.result.0.now c.ends.result.1.now in
    let other = span_between c.ends-in-loop-other_place.result.0.now c.ends-in-loop-other_place.result.1.now in
    record {
      place = omega arith;
      other_place = loop.invariant.other_place;
      covered = loop.invariant.covered;
      passed = λ cut there here. passed g.met.T.Ord.total c.args.ones.now.merged c.args.others.now.merged
          c.len-count.ensures.joined.merged c.len-other_count.ensures.joined.merged loop.place loop.other_place one
          other
          c.ends.ensures c.ends-in-loop-other_place.ensures (at_most-from_le g.T.Ord.cmp one.upper other.lower
          (sym c.le.ensures ∙ c.if-le.true)) cut there (loop.invariant.passed cut there here);
    }

pub returns-then-lt-2 : goal.returns-then-lt-2
returns-then-lt-2 g c =
    let loop = c.loop-other_place in
    let one = span_between c.ends.result.0.now c.ends.result.1.now in
    let other = span_between c.ends-in-loop-other_place.result.0.now c.ends-in-loop-other_place.result.1.now in
    not-covered g.met.T.Ord.total c.args.ones.now.list c.args.others.now.list c.args.ones.now.merged
    c.args.others.now.merged c.len-count.ensures.joined c.len-other_count.ensures.joined loop.place loop.other_place
    loop.invariant.passed
    (uncovered g.met.T.Ord.total c.args.ones.now.merged c.args.others.now.merged
    c.len-count.ensures.joined.merged c.len-other_count.ensures.joined.merged loop.place loop.other_place one other
    c.ends.ensures c.ends-in-loop-other_place.ensures
    (below-from_not_le g.met.T.Ord.total one.upper other.lower (sym c.le.ensures ∙ c.if-le.false))
    (elim c.if-lt.branch [
      | then-lt w ↦ inl (below-from_lt g.T.Ord.cmp other.lower one.lower (sym c.lt.ensures ∙ w.if-lt.true))
      | else-lt w ↦ inr (below-from_lt g.T.Ord.cmp one.upper other.upper
          (sym w.lt-else-lt.ensures ∙ sym w.value-is ∙ c.if-lt-2.true))
    ]))

pub loop-other_place-preserved : goal.loop-other_place-preserved
loop-other_place-preserved g c =
    let loop = c.loop-other_place in
    let one = span_between c.ends.result.0.now c.ends.result.1.now in
    let other = span_between c.ends-in-loop-other_place.result.0.now c.ends-in-loop-other_place.result.1.now in
    record {
      place = loop.invariant.place;
      other_place = omega arith;
      covered = elim c.if-lt.branch [
        | then-lt w ↦ absurd (true≢false (sym w.if-lt.true ∙ sym w.value-is ∙ c.if-lt-2.false))
        | else-lt w ↦ λ cut is. ⊎_elim (λ here. inl here)
            (λ there. covered g.met.T.Ord.total c.args.ones.now.merged c.args.others.now.merged
            c.len-count.ensures.joined.merged c.len-other_count.ensures.joined.merged loop.place loop.other_place one
            other
            c.ends.ensures c.ends-in-loop-other_place.ensures
            (at_most-from_not_lt g.met.T.Ord.total other.lower one.lower (sym c.lt.ensures ∙ w.if-lt.false))
            (at_most-from_not_lt g.met.T.Ord.total one.upper other.upper
            (sym w.lt-else-lt.ensures ∙ sym w.value-is ∙ c.if-lt-2.false)) cut there)
            (loop.invariant.covered cut is)
      ];
      passed = λ cut later here. loop.invariant.passed cut
          (subst (λ l. IsInSome g.T.Ord.cmp l cut) (sym c.ends-in-loop-other_place.ensures) (inr later)) here;
    }

pub returns : goal.returns
returns g c =
    let none = none-from g.met.T.Ord.total c.args.others.now.merged c.loop-other_place.other_place in (
      λ true cut is. grind (
        arith,
        common_steps,
        c.len-count.ensures.joined.cuts cut,
        c.len-other_count.ensures.joined.cuts cut,
        c.loop-other_place.invariant.covered cut,
        none,
      ),
      λ covers. refl,
    )

pub ends-requires : goal.ends-requires
ends-requires g c = subst (λ n. c.loop-other_place.place < n) c.len-count.ensures.length c.if-place-count.false

pub ends-requires-in-loop-other_place : goal.ends-requires-in-loop-other_place
ends-requires-in-loop-other_place g c =
    subst (λ n. c.loop-other_place.other_place < n) c.len-other_count.ensures.length c.loop-other_place-test.true
