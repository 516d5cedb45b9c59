-- Those so far were found.
use Rattle.std.proofs.Common.{◌<◌, ℕ}
use Rattle.npm_trees.specs.Private.Reaching.{Has}
use Rattle.npm_trees.proofs.reached.are_reached.Given as goal

abbrev pub invariant-loop-number : goal.invariant-loop-number
invariant-loop-number l = (k : ℕ) → k < l.number → Has l.reached k
