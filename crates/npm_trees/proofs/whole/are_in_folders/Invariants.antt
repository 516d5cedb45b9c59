-- Those so far are in folders.
use Rattle.npm_trees.specs.Whole.{IsInFolder}
use Rattle.npm_trees.proofs.Indexed.{UpTo}
use Rattle.npm_trees.proofs.whole.are_in_folders.Given as goal

abbrev pub invariant-loop-number : goal.invariant-loop-number
invariant-loop-number l = UpTo (IsInFolder l.places) l.places l.number
