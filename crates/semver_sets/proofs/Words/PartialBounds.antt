-- What a partial that is read holds, and its version.
use Rattle.std.proofs.Common.{◌≤◌, ℕ, List, Option, Some, None, arith}
use Rattle.std.specs.List.{AllByRecursion}
use Rattle.semver_texts.specs.declared.TheConstants.{MAX_SAFE_INTEGER}
use Rattle.semver_sets.specs.PartialText.{IsLed, IsPartialText, IsUnmarkedPartial, Partial}
use Rattle.semver_sets.specs.PartialText.{zeroed}
use Rattle.semver_texts.specs.IdentifierText.{IsReadIdentifier}
use Rattle.semver_texts.specs.Lemmas.Public.{build-read, prerelease-read}
use Rattle.semver_sets.specs.Lemmas.Comparators.{IsReadVersion}
use Rattle.semver_sets.specs.RangeSets.{IsRangeEnd}
use Rattle.semver_texts.specs.Version.{without_build}

-- ---- partials

-- a component is at most the limit
abbrev pub IsReadComponent : Option ℕ → Type 0
IsReadComponent None = Unit {0}
IsReadComponent (Some number) = number ≤ MAX_SAFE_INTEGER

-- what a partial that is read holds
pub record IsReadPartial (p : Partial) : Type 0 where
  pub major : IsReadComponent p.major
  pub minor : IsReadComponent p.minor
  pub patch : IsReadComponent p.patch
  pub pre_release : AllByRecursion IsReadIdentifier p.pre_release
  pub build : AllByRecursion IsReadIdentifier p.build

unmarked-read : (text : List ℕ) (p : Partial) → IsUnmarkedPartial p text → IsReadPartial p
unmarked-read text p h1 = grind (arith, prerelease-read, build-read)

pub partial-read : (text : List ℕ) (p : Partial) → IsPartialText text p → IsReadPartial p
partial-read text p is = unmarked-read is.unmarked p is.read

pub led-read : (lead text : List ℕ) (p : Partial) → IsLed lead text p → IsReadPartial p
led-read lead text p is = partial-read is.operand p is.read

pub zeroed-read : (p : Partial) → IsReadPartial p → IsReadVersion (zeroed p)
zeroed-read p is = grind arith

-- without its build
pub bare-read : (p : Partial) → IsReadPartial p → IsRangeEnd (without_build (zeroed p))
bare-read p is = grind arith
