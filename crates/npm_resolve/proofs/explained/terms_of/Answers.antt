-- One term more.
use Rattle.npm_resolve.specs.Explanations.{IsTerm}
use Rattle.npm_pick.specs.Lemmas.Zips.{one_more}
use Rattle.npm_resolve.proofs.explained.terms_of.Goals as goal

pub loop-term-preserved : goal.loop-term-preserved
loop-term-preserved c = rw c.in_ok-push.ensures.items (one_more (IsTerm c.args.posed.now) c.args.terms.now
    c.loop-term.found.items c.loop-term.term-index _ c.term_of.result c.loop-term-test.true c.loop-term.invariant c.term_of.ensures)
