-- Those so far are below.
use Rattle.std.proofs.Common.{◌<◌, All, take}
use Rattle.npm_trees.proofs.left_out.are_below.Given as goal

abbrev pub invariant-loop-number : goal.invariant-loop-number
invariant-loop-number l = All (λ number. number < l.bound) (take l.number-index l.numbers)
