-- The law of the difference between a version and its bumped version: npm's `diff` after `inc`.
use Rattle.std.specs.Prelude.{◌≡◌, ℕ, zero, suc, List, [], ◌∷◌, Some}
use Rattle.semver_texts.specs.IdentifierValue.{IdentifierValue}
use Rattle.semver_texts.specs.Version.{VersionValue}
use Rattle.npm_semver.specs.BumpBetween.{bump_between, by_numbers}
use Rattle.npm_semver.specs.declared.bump.Bump.{Bump}
use Rattle.npm_semver.specs.declared.bump.Bump.TheVariants.{Major, Minor, Patch, Pre}
use Rattle.npm_semver.specs.declared.bump.Bump.TheVariants.{PreMajor, PreMinor, PrePatch, PreRelease}

-- the bump names one of the three numbers: `minor` and `preminor` do, and `prerelease` does not
abbrev pub NamesNumber : Bump → Type 0
NamesNumber PreRelease = ⊥
NamesNumber Pre = ⊥
NamesNumber bump = Unit {0}

-- The bump by which a version and its bumped version differ, by the prerelease, minor and patch of the version.
abbrev pub difference_after : Bump → (pre_release : List IdentifierValue) → (minor patch : ℕ) → Bump
-- `major` for `1.2.3` and `2.0.0`
difference_after Major pre minor patch = Major
-- `minor` for `1.2.3` and `1.3.0`; but `major` for `2.0.0-rc.1` and `2.0.0`
difference_after Minor (x ∷ pre) zero zero = Major
difference_after Minor pre minor patch = Minor
-- `patch` for `1.2.3` and `1.2.4`; but `major` for `2.0.0-rc.1` and `2.0.0`, `minor` for `1.3.0-rc.1` and `1.3.0`
difference_after Patch (x ∷ pre) zero zero = Major
difference_after Patch (x ∷ pre) (suc minor) zero = Minor
difference_after Patch pre minor patch = Patch
-- `premajor` for `1.2.3` and `2.0.0-0`, and so on
difference_after PreMajor pre minor patch = PreMajor
difference_after PreMinor pre minor patch = PreMinor
difference_after PrePatch pre minor patch = PrePatch
-- `prerelease` for `1.2.3-0` and `1.2.3-1`; `prepatch` for `1.2.3` and `1.2.4-0`
difference_after PreRelease (x ∷ pre) minor patch = PreRelease
difference_after PreRelease [] minor patch = PrePatch
-- `prerelease` for `1.2.3-0` and `1.2.3-1`; `patch` for `1.2.3` and `1.2.3-0`
difference_after Pre (x ∷ pre) minor patch = PreRelease
difference_after Pre [] minor patch = by_numbers minor patch minor patch

-- `diff` of the two versions is this bump, whichever of them is first
pub record DifferBy (bump : Bump) (v w : VersionValue) : Type 0 where
  pub one_first : bump_between v w ≡ Some bump
  pub other_first : bump_between w v ≡ Some bump
