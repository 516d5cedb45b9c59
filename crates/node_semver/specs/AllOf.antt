-- Several ranges that are asked as one.
use Rattle.std.specs.Prelude.{List}
use Rattle.std.specs.List.{AllByRecursion}
use Rattle.semver_texts.specs.Version.{VersionValue}

-- each of the ranges admits the version: `^1` and `>=1.2` both admit 1.5.0, and not 1.1.0
abbrev pub AllAdmit : {A : Type 0} → (A → VersionValue → Type 0) → List A → VersionValue → Type 0
AllAdmit admits ranges v = AllByRecursion (λ range. admits range v) ranges
