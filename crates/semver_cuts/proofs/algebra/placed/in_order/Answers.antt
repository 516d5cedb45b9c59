use Rattle.std.proofs.Common.{◌++◌, ap, subst, sym}
use Rattle.std.proofs.lemmas.List.{drop_all}
use Rattle.semver_cuts.specs.Joined.{AreRising}
use Rattle.semver_cuts.specs.Private.Placed.{placed_from}
use Rattle.semver_cuts.proofs.Joining.PlacedLoop.{placed-moved, placed-next, placed-rising}
use Rattle.semver_cuts.proofs.algebra.placed.in_order.Goals as goal

pub loop-place-init : goal.loop-place-init
loop-place-init g c = record {
  placed = ap (λ l. l ++ placed_from 0 c.args.spans.now) c.in_ok-order.ensures.items;
  rising = λ h. h;
}

pub loop-place-preserved : goal.loop-place-preserved
loop-place-preserved g c =
    let spans = c.args.spans.now in
    let place = c.loop-place.place in
    let span = c.index-spans-place.result in
    record {
      placed = placed-next g.T.Ord.cmp spans place span c.loop-place.order.items c.push.new.self.items _
          c.loop-place-test.true c.index-spans-place.is c.in_ok-push.ensures.items c.loop-place.invariant.placed;
      rising = λ h. c.loop-place.invariant.rising (placed-rising g.T.Ord.cmp spans place span c.ends-ends.result.0.now
          c.ends-ends.result.1.now c.loop-place-test.true c.index-spans-place.is c.ends-ends.ensures.ends
          c.ends-ends.ensures.rising h);
    }

pub returns : goal.returns
returns g c = record {
  rising = c.loop-place.invariant.rising
      (subst (AreRising g.T.Ord.cmp) (sym (drop_all c.loop-place.place c.args.spans.now c.loop-place-test.false)) tt);
  same = placed-moved g.T.Ord.cmp c.args.spans.now c.loop-place.place c.loop-place.order.items
      c.sort_unstable.new.self.items c.loop-place-test.false c.loop-place.invariant.placed
      c.sort_unstable.ensures.permutation;
  sorted = c.sort_unstable.ensures.sorted;
}
