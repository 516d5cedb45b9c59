-- Which demands of a root cannot be met together.

use Rattle.std.specs.Prelude.{◌≡◌, ◌++◌, List, ◌∷◌, All, Contains}
use Rattle.version_solving.specs.declared.demand.Demand.{Demand}
use Rattle.version_solving.specs.Solving.{Fits, Problem, Selection}

-- The problem with other demands of the root.
abbrev pub with_root : Problem → List Demand → Problem
with_root p root = record { root = root; count = p.count; demands = p.demands; allows = p.allows }

-- A selection fits if the root has these demands.
abbrev pub CanBeMet : Problem → List Demand → Type 0
CanBeMet p demands = (s : Selection) × Fits (with_root p demands) s

-- They are demands of the root that cannot be met together, and without any one of them the others can.
pub record AreCulprits (p : Problem) (demands : List Demand) : Type 0 where
  pub within : All (Contains p.root) demands
  pub together : CanBeMet p demands → ⊥
  pub without_one : (before after : List Demand) (one : Demand) → demands ≡ before ++ one ∷ after → CanBeMet p (before ++ after)
