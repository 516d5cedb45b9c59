-- The index has the places so far.
use Rattle.std.proofs.Common.{◌≡◌, ◌↔◌, ◌<◌, ℕ, List, Some}
use Rattle.npm_trees.specs.Places.{IsIn}
use Rattle.npm_trees.specs.Private.Folders.{at_name}
use Rattle.npm_trees.proofs.folders.folders_of.Given as goal

abbrev pub invariant-loop-number : goal.invariant-loop-number
invariant-loop-number l = (folder : ℕ) (name : List ℕ) (k : ℕ)
    → (at_name l.folders folder name ≡ Some k) ↔ ((k < l.number) × IsIn l.places folder name k)
