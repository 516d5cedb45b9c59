-- Which candidate outside the range of a demand would fit.

use Rattle.std.specs.Prelude.{◌≡◌, ◌<◌, ◌++◌, ℕ, false, List, ◌∷◌, Some, ⊤}
use Rattle.version_solving.specs.declared.demand.Demand.{Demand}
use Rattle.version_solving.specs.declared.change.Change.{Change}
use Rattle.version_solving.specs.declared.change.Change.TheVariants.{First, Nothing, Undecided}
use Rattle.version_solving.specs.Culprits.{with_root}
use Rattle.version_solving.specs.Solving.{Fits, Problem, Selection}

-- The range does not allow the candidate of the name, and a selection that has it fits.
pub record WouldFit (p : Problem) (name range candidate : ℕ) : Type 0 where
  pub outside : p.allows range candidate ≡ false
  pub selection : Selection
  pub fits : Fits p selection
  pub selected : selection name ≡ Some candidate

-- The first candidate that would fit; or none would; or neither is known.
abbrev pub IsFirst : Problem → (name range : ℕ) → Change → Type 0
IsFirst p name range (First candidate) = WouldFit p name range candidate
    × ((earlier : ℕ) → earlier < candidate → WouldFit p name range earlier → ⊥)
IsFirst p name range Nothing = (candidate : ℕ) → WouldFit p name range candidate → ⊥
IsFirst p name range Undecided = ⊤

-- The first candidate that would fit in place of a demand of the root. The demand does not count, and the others do.
pub record IsChange (p : Problem) (d : Demand) (change : Change) : Type 0 where
  pub before : List Demand
  pub after : List Demand
  pub root : p.root ≡ before ++ d ∷ after
  pub first : IsFirst (with_root p (before ++ after)) d.name d.range change
