-- What the candidates of one name more ask.
use Rattle.std.proofs.Common.{refl}
use Rattle.npm_packages.specs.Rules.{rule_at}
use Rattle.npm_resolve.specs.Instance.{IsListedFor}
use Rattle.npm_pick.specs.Lemmas.Zips.{item_more}
use Rattle.npm_resolve.proofs.instance.lists_of.Goals as goal

pub loop-offer-preserved : goal.loop-offer-preserved
loop-offer-preserved c = rw c.in_ok-push.ensures.items (item_more (IsListedFor c.args.reach (rule_at c.args.rules.now) c.args.omits) c.args.offers.now
    c.loop-offer.lists.items c.loop-offer.offer-index c.offer-item.result _ c.loop-offer-test.true c.offer-item.is
    c.loop-offer.invariant (record { name = refl; askers = rw c.deref.ensures.value at c.in_ok-askers_of.ensures }))
