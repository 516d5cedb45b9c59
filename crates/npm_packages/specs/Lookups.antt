-- The folders in which a name is looked up.
use Rattle.std.specs.Prelude.{ℕ, List}
use Rattle.npm_packages.specs.Folders.{IsAbove, IsOutermost}

-- a folder in which names are looked up from another: that one, or one above it
pub data IsReached : (from to : List ℕ) → Type 0 where
  itself : (folder : List ℕ) → IsReached folder folder
  above : (folder parent to : List ℕ) → IsAbove folder parent → IsReached parent to → IsReached folder to

-- the last one
pub record IsOutermostFrom (from outermost : List ℕ) : Type 0 where
  pub reached : IsReached from outermost
  pub last : IsOutermost outermost
