-- By which bump two versions differ: npm's `diff`, as its README has it under "Functions".
use Rattle.std.specs.Prelude.{◌==◌, ℕ, zero, suc, List, [], ◌∷◌, Option, Some, None, if◌then◌else◌}
use Rattle.std.specs.declared.cmp.Ordering.{Ordering}
use Rattle.std.specs.declared.cmp.Ordering.TheVariants.{Less, Equal, Greater}
use Rattle.semver_texts.specs.Comparison.{version_cmp}
use Rattle.semver_texts.specs.IdentifierValue.{IdentifierValue}
use Rattle.semver_texts.specs.Version.{VersionValue}
use Rattle.npm_semver.specs.declared.bump.Bump.{Bump}
use Rattle.npm_semver.specs.declared.bump.Bump.TheVariants.{Major, Minor, Patch}
use Rattle.npm_semver.specs.declared.bump.Bump.TheVariants.{PreMajor, PreMinor, PrePatch, PreRelease}

-- the first of the three numbers that differs: `minor` for `1.2.3` and `1.3.0`
abbrev pub first_of : {A : Type 0} → (major minor patch same : A) → VersionValue → VersionValue → A
first_of major minor patch same v w =
    if v.major == w.major then
    if v.minor == w.minor then
    if v.patch == w.patch then same else patch
    else minor
    else major

-- the bump to a prerelease: `premajor` for `1.2.3` and `2.0.0-0`, `prerelease` for `1.2.3-0` and `1.2.3-1`
abbrev pub to_prerelease : VersionValue → VersionValue → Bump
to_prerelease low high = first_of PreMajor PreMinor PrePatch PreRelease low high

-- the bump from a release to a release: `minor` for `1.2.3` and `1.3.0`
abbrev pub to_release : VersionValue → VersionValue → Bump
to_release low high = first_of Major Minor Patch Patch low high

-- The bump by which a prerelease becomes a release: of which release it is a prerelease, or else the least one that
-- does
-- not go past the release. `major` for `1.0.0-rc.1` and `1.0.0`, `patch` for `1.2.0-rc.1` and `1.2.1`, `minor` for
-- `1.2.3-rc.1` and `1.3.0`
abbrev pub by_numbers : (low_minor low_patch high_minor high_patch : ℕ) → Bump
by_numbers zero zero high_minor high_patch = Major
by_numbers low_minor low_patch high_minor (suc high_patch) = Patch
by_numbers low_minor low_patch (suc high_minor) zero = Minor
by_numbers low_minor low_patch zero zero = Major

-- from the lower version to the higher one, by their prereleases
abbrev pub bump_up : (low_pre high_pre : List IdentifierValue) (low high : VersionValue) → Bump
bump_up low_pre (x ∷ high_pre) low high = to_prerelease low high
bump_up [] [] low high = to_release low high
bump_up (x ∷ low_pre) [] low high = by_numbers low.minor low.patch high.minor high.patch

-- from the lower one to the higher one, whichever is first; none for versions of the same precedence
abbrev pub by_order : Ordering → VersionValue → VersionValue → Option Bump
by_order Less v w = Some (bump_up v.pre_release w.pre_release v w)
by_order Equal v w = None
by_order Greater v w = Some (bump_up w.pre_release v.pre_release w v)

abbrev pub bump_between : VersionValue → VersionValue → Option Bump
bump_between v w = by_order (version_cmp v w) v w
