-- One ask more.
use Rattle.std.proofs.lemmas.List.{take_all}
use Rattle.std.proofs.lemmas.List.Elements.{All-nil}
use Rattle.npm_resolve.proofs.Naming.{ask_added, none_added}
use Rattle.npm_resolve.proofs.absent.Names.add_all.Goals as goal

pub loop-ask-init : goal.loop-ask-init
loop-ask-init c = none_added _ _ _ (All-nil _)

pub loop-ask-preserved : goal.loop-ask-preserved
loop-ask-preserved c = ask_added _ c.args.asks.now c.loop-ask.ask-index _ _ _ _ c.loop-ask-test.true c.loop-ask.invariant
    c.in_ok-add.ensures

pub returns : goal.returns
returns c = rw (take_all c.loop-ask.ask-index c.args.asks.now c.loop-ask-test.false) at c.loop-ask.invariant
