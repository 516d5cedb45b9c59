-- The demands that are kept on the way to the culprits.

use Rattle.std.specs.Prelude.{◌≡◌, ◌++◌, ℕ, List, ◌∷◌, All, Contains, reverse, take}
use Rattle.version_solving.specs.declared.demand.Demand.{Demand}
use Rattle.version_solving.specs.Solving.{Problem}
use Rattle.version_solving.specs.Culprits.{CanBeMet}

-- What is kept, the last demand of the root first, cannot be met with the first demands of the root, but without any one it can.
pub record AreMissed (p : Problem) (at_most : ℕ) (kept : List Demand) : Type 0 where
  pub within : All (Contains p.root) kept
  pub together : CanBeMet p (take at_most p.root ++ reverse kept) → ⊥
  pub without_one : (before after : List Demand) (one : Demand) → reverse kept ≡ before ++ one ∷ after
      → CanBeMet p (take at_most p.root ++ (before ++ after))

-- They are demands of the root that cannot be met together.
pub record AreTooMany (p : Problem) (demands : List Demand) : Type 0 where
  pub within : All (Contains p.root) demands
  pub together : CanBeMet p demands → ⊥
