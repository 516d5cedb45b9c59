-- What one candidate more asks for.
use Rattle.std.proofs.lemmas.List.{take_all}
use Rattle.std.proofs.lemmas.List.Elements.{All-nil}
use Rattle.npm_resolve.proofs.Naming.{asker_added, none_added}
use Rattle.npm_resolve.proofs.absent.Names.add_askers.Goals as goal

pub loop-asker-init : goal.loop-asker-init
loop-asker-init c = none_added _ _ _ (All-nil _)

pub loop-asker-preserved : goal.loop-asker-preserved
loop-asker-preserved c = asker_added _ c.args.askers.now c.loop-asker.asker-index c.asker-item.result _ _ _ c.loop-asker-test.true
    c.asker-item.is c.loop-asker.invariant (rw c.deref.ensures.value at c.in_ok-add_all.ensures)

pub returns : goal.returns
returns c = rw (take_all c.loop-asker.asker-index c.args.askers.now c.loop-asker-test.false) at c.loop-asker.invariant
