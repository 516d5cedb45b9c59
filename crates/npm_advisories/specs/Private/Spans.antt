-- Advisories that were read: which of them hit a version.
use Rattle.std.specs.Prelude.{◌≡◌, List, Option, Some, None, true}
use Rattle.node_semver.specs.RangeAlgebra.{sets_of_answer}
use Rattle.node_semver.specs.Ranges.{AnyByRecursion, RangeContains}
use Rattle.node_semver.specs.Versions.{IsPrerelease, VersionValue}
use Rattle.npm_advisories.specs.Severities.{is_at_least}
use Rattle.npm_advisories.specs.declared.advisory.Advisory.{Advisory}
use Rattle.npm_advisories.specs.declared.severity.Severity.{Severity}

-- the advisory is about the installed version, or that is none
abbrev pub IsIn : Advisory → Option VersionValue → Type 0
IsIn advisory (Some v) = RangeContains (sets_of_answer advisory.range) v
IsIn advisory None = Unit {0}

-- the advisory hits it
pub record IsHitBy (level : Severity) (installed : Option VersionValue) (advisory : Advisory) : Type 0 where
  pub severe : is_at_least level advisory.about.severity ≡ true
  pub contained : IsIn advisory installed

-- the advisory is about each release
abbrev pub IsOfEach : Advisory → Type 0
IsOfEach advisory = (v : VersionValue) → ¬ IsPrerelease v → RangeContains (sets_of_answer advisory.range) v

-- one of the advisories is about the version
abbrev pub IsInRange : List Advisory → VersionValue → Type 0
IsInRange advisories v = AnyByRecursion (λ advisory. RangeContains (sets_of_answer advisory.range) v) advisories

-- none of them is about a version that is known
abbrev pub IsPast : List Advisory → Option VersionValue → Type 0
IsPast advisories (Some v) = ¬ IsInRange advisories v
IsPast advisories None = ⊥
