-- One more.
use Rattle.npm_resolve.specs.Missing.{is_needed_in}
use Rattle.npm_resolve.proofs.Needing.{needed_all, needed_at, none_needed}
use Rattle.npm_resolve.proofs.missing.Needed.add_askers.Goals as goal

pub loop-asker-init : goal.loop-asker-init
loop-asker-init c = none_needed c.args.self.now

pub loop-asker-preserved : goal.loop-asker-preserved
loop-asker-preserved c = needed_at is_needed_in c.args.askers.now c.loop-asker.asker-index c.asker-item.result _ _ _
    c.loop-asker-test.true c.asker-item.is c.loop-asker.invariant (rw c.deref.ensures.value at c.in_ok-add_asks.ensures)

pub returns : goal.returns
returns c = needed_all is_needed_in c.args.askers.now c.loop-asker.asker-index _ _ c.loop-asker-test.false c.loop-asker.invariant
