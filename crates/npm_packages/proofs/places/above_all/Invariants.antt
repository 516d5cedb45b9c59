-- Each package has what is above it, or is left.
use Rattle.std.proofs.Common.{◌≡◌, ℕ, List}
use Rattle.std.specs.List.Sorted.{IsStrictlySortedBy}
use Rattle.std.specs.Map.{keys_of}
use Rattle.std.specs.Option.{IfSome, IsSome}
use Rattle.npm_packages.specs.Index.{at_place}
use Rattle.npm_packages.proofs.Above.{IsDone, left_for}
use Rattle.npm_packages.proofs.LastPlaces.{key_cmp}
use Rattle.npm_packages.proofs.places.above_all.Given as goal

abbrev pub invariant-loop-key : goal.invariant-loop-key
invariant-loop-key l = record {
  sorted : IsStrictlySortedBy key_cmp (keys_of l.key-iterator);
  by_folder : (name folder : List ℕ)
      → IfSome (left_for l.key-iterator name folder) (λ hit. hit.folder.now ≡ folder);
  all : (name folder : List ℕ) → IsSome (at_place l.places name folder)
      → IsDone l.places l.above l.key-iterator name folder;
}
