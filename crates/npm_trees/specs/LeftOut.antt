-- Which optional dependencies are left out: npm's "package.json", "optionalDependencies".
use Rattle.std.specs.Prelude.{◌≡◌, ◌↔◌, ℕ, List, Contains, IsSomeAnd, None, false, slice_get}
use Rattle.npm_trees.specs.Places.{Sees}
use Rattle.npm_trees.specs.declared.tree.Ask.{Ask}
use Rattle.npm_trees.specs.declared.tree.Kind.TheVariants.{Optional}
use Rattle.npm_trees.specs.declared.tree.Place.{Place}

-- an optional dependency for which nothing is seen, and that does not come in the tarball of the package that asks
pub record IsLeftOut (places : List Place) (ask : Ask) : Type 0 where
  pub optional : ask.kind ≡ Optional
  pub unbundled : ask.bundled ≡ false
  pub unseen : Sees places ask None

-- the numbers of those that are left out are told, and no others
abbrev pub AreLeftOut : List Place → List Ask → (left_out : List ℕ) → Type 0
AreLeftOut places asks left_out = (number : ℕ) → Contains left_out number ↔ IsSomeAnd (slice_get asks number) (IsLeftOut places)
