use Rattle.std.proofs.lemmas.Grind.{common_steps}
use Rattle.std.proofs.Common.{◌<◌, ◌≤◌, arith, inl, inr, refl, subst, sym, ◌∙◌}
use Rattle.semver_cuts.specs.Ends.{span_between}
use Rattle.semver_cuts.specs.Lemmas.Ends.{at_most-from_le}
use Rattle.semver_cuts.proofs.Walks.{not-shared, passed, share-found}
use Rattle.semver_cuts.proofs.algebra.walks.shares_along.Goals as goal

pub loop-place-preserved-then-le : goal.loop-place-preserved-then-le
loop-place-preserved-then-le g c =
    let loop = c.loop-place in
    let one = span_between c.ends.result.0.now c.ends.result.1.now in
    let other = span_between c.ends-in-loop-place.result.0.now c.ends-in-loop-place.result.1.now in
    record {
      place = loop.invariant.place;
      other_place = omega arith;
      left = λ cut here there. let both = loop.invariant.left cut here there in (
        both.0,
        passed g.met.T.Ord.total c.args.others.now.merged c.args.ones.now.merged
            c.len-other_count.ensures.joined.merged c.len-count.ensures.joined.merged loop.other_place loop.place other
            one
            c.ends-in-loop-place.ensures c.ends.ensures
            (at_most-from_le g.T.Ord.cmp other.upper one.lower (sym c.le.ensures ∙ c.if-le.true)) cut both.0 both.1,
      );
    }

pub loop-place-preserved : goal.loop-place-preserved
loop-place-preserved g c =
    let loop = c.loop-place in
    let one = span_between c.ends.result.0.now c.ends.result.1.now in
    let other = span_between c.ends-in-loop-place.result.0.now c.ends-in-loop-place.result.1.now in
    record {
      place = omega arith;
      other_place = loop.invariant.other_place;
      left = λ cut here there. let both = loop.invariant.left cut here there in (
        passed g.met.T.Ord.total c.args.ones.now.merged c.args.others.now.merged
            c.len-count.ensures.joined.merged c.len-other_count.ensures.joined.merged loop.place loop.other_place one
            other
            c.ends.ensures c.ends-in-loop-place.ensures (at_most-from_le g.T.Ord.cmp one.upper other.lower
            (sym c.le-else-le.ensures ∙ c.if-le-2.true)) cut both.1 both.0,
        both.1,
      );
    }

pub returns-else-le-2 : goal.returns-else-le-2
returns-else-le-2 g c =
    let one = span_between c.ends.result.0.now c.ends.result.1.now in
    let other = span_between c.ends-in-loop-place.result.0.now c.ends-in-loop-place.result.1.now in
    let found = share-found g.met.T.Ord.total c.args.ones.now.merged c.args.others.now.merged
    c.len-count.ensures.joined.merged c.len-other_count.ensures.joined.merged c.loop-place.place
    c.loop-place.other_place
    one other c.ends.ensures c.ends-in-loop-place.ensures (grind (arith, common_steps)) (grind (arith, common_steps)) in (
      λ true. (
        found.0,
        (c.len-count.ensures.joined.cuts found.0).0 found.1,
        (c.len-other_count.ensures.joined.cuts found.0).0 found.2,
      ),
      λ some. refl,
    )

pub loop-place-init : goal.loop-place-init
loop-place-init g c = record { place = omega arith; other_place = omega arith; left = λ cut here there. (here, there) }

pub returns-else-other_place-other_count : goal.returns-else-other_place-other_count
returns-else-other_place-other_count g c =
    not-shared g.met.T.Ord.total c.args.ones.now.list c.args.others.now.list c.args.ones.now.merged
    c.args.others.now.merged c.len-count.ensures.joined c.len-other_count.ensures.joined c.loop-place.place
    c.loop-place.other_place c.loop-place.invariant.left
    (inr (subst (λ n. n ≤ c.loop-place.other_place) c.len-other_count.ensures.length
    c.if-other_place-other_count.false))

pub returns-after-loop-place : goal.returns-after-loop-place
returns-after-loop-place g c =
    not-shared g.met.T.Ord.total c.args.ones.now.list c.args.others.now.list c.args.ones.now.merged
    c.args.others.now.merged c.len-count.ensures.joined c.len-other_count.ensures.joined c.loop-place.place
    c.loop-place.other_place c.loop-place.invariant.left
    (inl (subst (λ n. n ≤ c.loop-place.place) c.len-count.ensures.length c.loop-place-test.false))

pub ends-requires : goal.ends-requires
ends-requires g c = subst (λ n. c.loop-place.place < n) c.len-count.ensures.length c.loop-place-test.true

pub ends-requires-in-loop-place : goal.ends-requires-in-loop-place
ends-requires-in-loop-place g c =
    subst (λ n. c.loop-place.other_place < n) c.len-other_count.ensures.length c.if-other_place-other_count.true
