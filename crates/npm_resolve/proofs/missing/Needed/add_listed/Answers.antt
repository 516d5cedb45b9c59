-- One more.
use Rattle.npm_resolve.specs.Missing.{is_needed_of}
use Rattle.npm_resolve.proofs.Needing.{needed_all, needed_at, none_needed}
use Rattle.npm_resolve.proofs.missing.Needed.add_listed.Goals as goal

pub loop-one-init : goal.loop-one-init
loop-one-init c = none_needed c.args.self.now

pub loop-one-preserved : goal.loop-one-preserved
loop-one-preserved c = needed_at is_needed_of c.args.listed.now c.loop-one.one-index c.one-item.result _ _ _
    c.loop-one-test.true c.one-item.is c.loop-one.invariant (rw c.deref.ensures.value at c.in_ok-add_askers.ensures)

pub returns : goal.returns
returns c = needed_all is_needed_of c.args.listed.now c.loop-one.one-index _ _ c.loop-one-test.false c.loop-one.invariant
