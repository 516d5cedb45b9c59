-- One range more.
use Rattle.npm_resolve.specs.Instance.{IsRangeFor}
use Rattle.npm_pick.specs.Lemmas.Zips.{one_more}
use Rattle.npm_resolve.proofs.instance.ranges_of.Goals as goal

pub loop-one-preserved : goal.loop-one-preserved
loop-one-preserved c = rw c.in_ok-push.ensures.items (one_more (IsRangeFor c.args.before c.args.offers.now)
    c.args.wanted.now c.loop-one.ranges.items c.loop-one.one-index _ c.in_ok-range_of.field-0 c.loop-one-test.true
    c.loop-one.invariant c.in_ok-range_of.ensures)
