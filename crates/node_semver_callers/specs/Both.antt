-- A version that suits two range texts.
use Rattle.std.specs.Prelude.{ℕ, List}
use Rattle.node_semver.specs.Ranges.{TextAdmits}
use Rattle.node_semver.specs.Versions.{VersionValue}

-- both texts admit the version
pub record SuitsBoth (one other : List ℕ) (v : VersionValue) : Type 0 where
  pub first : TextAdmits one v
  pub second : TextAdmits other v
