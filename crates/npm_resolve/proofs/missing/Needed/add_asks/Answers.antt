-- One more.
use Rattle.npm_resolve.specs.Missing.{needs}
use Rattle.npm_resolve.proofs.Needing.{needed_all, needed_more, none_needed}
use Rattle.npm_resolve.proofs.missing.Needed.add_asks.Goals as goal

pub loop-ask-init : goal.loop-ask-init
loop-ask-init c = none_needed c.args.self.now

pub loop-ask-preserved : goal.loop-ask-preserved
loop-ask-preserved c = needed_more needs c.args.asks.now c.loop-ask.ask-index _ _ _ _ c.loop-ask-test.true
    c.loop-ask.invariant c.in_ok-add_ask.ensures

pub returns : goal.returns
returns c = needed_all needs c.args.asks.now c.loop-ask.ask-index _ _ c.loop-ask-test.false c.loop-ask.invariant
