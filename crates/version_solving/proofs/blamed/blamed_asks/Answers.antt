-- One ask more: that at the place of the demand.
use Rattle.std.proofs.Common.{◌<◌, length}
use Rattle.std.proofs.lemmas.List.{get_or_default}
use Rattle.version_solving.specs.Naming.{IsAskOf}
use Rattle.version_solving.proofs.Grown.{item_there, one_more}
use Rattle.version_solving.proofs.blamed.blamed_asks.Goals as goal

pub loop-demand-preserved : goal.loop-demand-preserved
loop-demand-preserved c =
    let place = c.place_of-place.result in
    let inside : place < length c.args.asks.now = rw c.requires.length c.place_of-place.ensures.inside in
    rw c.in_ok-push.ensures.items (one_more (IsAskOf c.args.asks.now c.args.demands.now) c.args.some.now
    c.loop-demand.blamed.items c.loop-demand.demand-index _ _ c.loop-demand-test.true c.loop-demand.invariant (record {
      place = place;
      asked = item_there c.args.asks.now place _ inside (get_or_default c.args.asks.now place _ _ inside);
      demanded = c.place_of-place.ensures.there;
    }))
