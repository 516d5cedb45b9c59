-- The candidates of one document more.
use Rattle.npm_resolve.specs.Instance.{IsOffer}
use Rattle.npm_pick.specs.Lemmas.Zips.{item_more}
use Rattle.npm_resolve.proofs.instance.offers_of.Goals as goal

pub loop-document-preserved : goal.loop-document-preserved
loop-document-preserved c = rw c.in_ok-push.ensures.items (item_more (IsOffer c.args.options.now) c.args.documents.now
    c.loop-document.offers.items c.loop-document.document-index c.document-item.result c.in_ok-offer_of.field-0
    c.loop-document-test.true c.document-item.is c.loop-document.invariant c.in_ok-offer_of.ensures)
