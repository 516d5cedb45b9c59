-- What is seen from the folder is seen from the start.
use Rattle.std.proofs.Common.{ℕ, Option}
use Rattle.npm_trees.specs.Private.Folders.{IsOnlySeen}
use Rattle.npm_trees.proofs.folders.seen_from.Given as goal

abbrev pub invariant-up : goal.invariant-up
invariant-up l = (found : Option ℕ) → IsOnlySeen l.places l.name l.folder found → IsOnlySeen l.places l.name l.fn.start found

abbrev pub decreases-up : goal.decreases-up
decreases-up l = l.folder
