-- One place more.
use Rattle.std.proofs.Common.{[], refl}
use Rattle.std.proofs.lemmas.List.{take_all}
use Rattle.std.specs.List.{Contains}
use Rattle.npm_trees.proofs.Reaching.{none_in, nothing_added, one_more_added}
use Rattle.npm_trees.proofs.found.Found.add_all.Goals as goal

pub loop-number-init : goal.loop-number-init
loop-number-init c = nothing_added (Contains []) c.args.self.now c.requires none_in

pub loop-number-preserved : goal.loop-number-preserved
loop-number-preserved c = one_more_added c.args.numbers.now c.loop-number.number-index 0 _ c.args.self.now _ _ c.loop-number-test.true refl
    c.loop-number.invariant c.in_ok-add.ensures

pub returns : goal.returns
returns c = rw (take_all c.loop-number.number-index c.args.numbers.now c.loop-number-test.false) at c.loop-number.invariant
