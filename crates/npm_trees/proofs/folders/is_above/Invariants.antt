-- What is above the folder is above the place, and the other way round.
use Rattle.std.proofs.Common.{◌↔◌}
use Rattle.npm_trees.specs.Whole.{IsAbove}
use Rattle.npm_trees.proofs.folders.is_above.Given as goal

abbrev pub invariant-up : goal.invariant-up
invariant-up l = IsAbove l.places l.folder l.above ↔ IsAbove l.places l.fn.number l.above

abbrev pub decreases-up : goal.decreases-up
decreases-up l = l.folder
