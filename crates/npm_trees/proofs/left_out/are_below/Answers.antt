-- One number more is below.
use Rattle.std.proofs.Common.{◌<◌, arith, refl}
use Rattle.std.proofs.lemmas.List.{take_all}
use Rattle.std.proofs.lemmas.List.Elements.{All-more}
use Rattle.npm_trees.proofs.left_out.are_below.Goals as goal

pub loop-number-preserved : goal.loop-number-preserved
loop-number-preserved c = All-more (λ number. number < c.args.bound) c.args.numbers.now c.loop-number.number-index 0 c.loop-number-test.true
    c.loop-number.invariant (omega arith)

pub returns : goal.returns
returns c = (
  (λ is. rw (take_all c.loop-number.number-index c.args.numbers.now c.loop-number-test.false) at c.loop-number.invariant),
  (λ all. refl),
)
