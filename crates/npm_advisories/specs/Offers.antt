-- The versions that are offered in place of one that is hit: the least release above it that no advisory hits, and the
-- least such release that satisfies the ranges of all its dependents.
--
-- Both are releases, since a range admits a prerelease only if it has one of the same triple: for 4.17.20 and
-- `<=4.17.20` the offered version is 4.17.21, and not 4.17.21-0, which is less.
use Rattle.std.specs.Prelude.{◌≡◌, ◌↔◌, ℕ, List, [], Option, IfSome, IsNone, true, false}
use Rattle.std.specs.List.{AllByRecursion}
use Rattle.node_semver.specs.Least.{IsLeastOf, IsNoneOf}
use Rattle.npm_semver.specs.NpmRanges.{NpmOptions, NpmTextAdmits, with_plain_spaces}
use Rattle.node_semver.specs.Ranges.{AnyByRecursion}
use Rattle.node_semver.specs.Versions.{IsBelow, IsPrerelease, VersionValue}
use Rattle.npm_advisories.specs.Advisories.{AdvisoryValue, Affects}

-- one of the advisories is about the version
abbrev pub IsAffected : List AdvisoryValue → VersionValue → Type 0
IsAffected advisories v = AnyByRecursion (λ advisory. Affects advisory.affected v) advisories

-- a release above the installed version that none of the advisories is about, whatever their severity
pub record IsUnhit (advisories : List AdvisoryValue) (installed v : VersionValue) : Type 0 where
  pub release : ¬ IsPrerelease v
  pub above : IsBelow installed v
  pub unhit : ¬ IsAffected advisories v

-- npm reads the range of a dependent in loose form
abbrev pub asked_options : NpmOptions
asked_options = record { loose = true; include_prerelease = false }

-- the range text of a dependent admits the version. A text that npm refuses as a range admits none
abbrev pub IsAskedFor : (text : List ℕ) → VersionValue → Type 0
IsAskedFor text v = NpmTextAdmits asked_options (with_plain_spaces text) v

-- such a release that each of the range texts admits
pub record IsAdmitted (advisories : List AdvisoryValue) (asked : List (List ℕ)) (installed v : VersionValue)
    : Type 0 where
  pub unhit : IsUnhit advisories installed v
  pub admitted : AllByRecursion (λ text. IsAskedFor text v) asked

-- the least version that is wanted, without build, or none if none is
pub record IsLeastOrNone (Wanted : VersionValue → Type 0) (found : Option VersionValue) : Type 0 where
  pub least : IfSome found (IsLeastOf Wanted)
  pub none : IsNone found ↔ IsNoneOf Wanted
  pub build : IfSome found (λ v. v.build ≡ [])
