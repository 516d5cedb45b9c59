-- One line more.
use Rattle.npm_resolve.specs.Explanations.{IsReasonOf}
use Rattle.npm_pick.specs.Lemmas.Zips.{item_more}
use Rattle.npm_resolve.proofs.explained.all_explained.Goals as goal

pub loop-line-preserved : goal.loop-line-preserved
loop-line-preserved c = rw c.in_ok-push.ensures.items (item_more (IsReasonOf c.args.posed.now) c.args.lines.now
    c.loop-line.reasons.items c.loop-line.line-index c.line-item.result _ c.loop-line-test.true c.line-item.is
    c.loop-line.invariant (record {
      source = c.in_ok-source_of.ensures;
      terms = rw c.deref.ensures.value at c.in_ok-terms_of.ensures;
    }))
