-- Worked examples: by which bump a version and its bumped version differ. npm's `diff` after its `inc`.
use Rattle.std.proofs.Common.{◌≡◌, List, [], ◌∷◌, Some, codes, refl}
use Rattle.semver_texts.specs.IdentifierValue.{IdentifierValue, alphanumeric, numeric}
use Rattle.semver_texts.specs.Version.{VersionValue, least_of, release, with_pre_release}
use Rattle.npm_semver.specs.BumpBetween.{bump_between}
use Rattle.npm_semver.specs.BumpLaws.{DifferBy, NamesNumber, difference_after}
use Rattle.npm_semver.specs.declared.bump.Bump.{Bump}
use Rattle.npm_semver.specs.declared.bump.Bump.TheVariants.{Major, Minor, Patch, Pre}
use Rattle.npm_semver.specs.declared.bump.Bump.TheVariants.{PreMajor, PreMinor, PrePatch, PreRelease}

-- the prerelease of `2.0.0-rc.1`
abbrev candidate : List IdentifierValue
candidate = alphanumeric (codes "rc") ∷ numeric 1 ∷ []

abbrev candidate_of : VersionValue → VersionValue
candidate_of v = record v { pre_release = candidate }

-- ---- what `diff` returns

both : {bump : Bump} {v w : VersionValue} → bump_between v w ≡ Some bump → bump_between w v ≡ Some bump
    → DifferBy bump v w
both one other = record { one_first = one; other_first = other }

-- `1.2.3` and `2.0.0`, `1.3.0` and `1.2.4`, and the first prereleases of these
releases-differ : DifferBy Major (release 1 2 3) (release 2 0 0) × DifferBy Minor (release 1 2 3) (release 1 3 0)
    × DifferBy Patch (release 1 2 3) (release 1 2 4) × DifferBy PreMajor (release 1 2 3) (least_of 2 0 0)
    × DifferBy PreMinor (release 1 2 3) (least_of 1 3 0) × DifferBy PrePatch (release 1 2 3) (least_of 1 2 4)
releases-differ = (both refl refl, both refl refl, both refl refl, both refl refl, both refl refl, both refl refl)

-- `2.0.0-rc.1` and `2.0.0`, `1.3.0-rc.1` and `1.3.0`, `1.2.3-rc.1` and `1.2.3`
candidates-differ : DifferBy Major (candidate_of (release 2 0 0)) (release 2 0 0)
    × DifferBy Minor (candidate_of (release 1 3 0)) (release 1 3 0)
    × DifferBy Patch (candidate_of (release 1 2 3)) (release 1 2 3)
candidates-differ = (both refl refl, both refl refl, both refl refl)

-- `1.2.3-0` and `1.2.3-1`; not the number that `1.2.3` and `1.2.4` differ by
prereleases-differ : DifferBy PreRelease (with_pre_release 1 2 3 0) (with_pre_release 1 2 3 1)
    × ¬ DifferBy Minor (release 1 2 3) (release 1 2 4)
prereleases-differ = (both refl refl, λ h. cc h.one_first)

-- ---- the bump that the law has

-- after a release
after-release : (difference_after Minor [] 2 3 ≡ Minor) × (difference_after PreMinor [] 2 3 ≡ PreMinor)
    × (difference_after PreRelease [] 2 3 ≡ PrePatch) × (difference_after Pre [] 2 3 ≡ Patch)
after-release = (refl, refl, refl, refl)

-- after `2.0.0-rc.1`, which each of these bumps makes `2.0.0`, and after `1.3.0-rc.1`
after-candidate : (difference_after Major candidate 0 0 ≡ Major) × (difference_after Minor candidate 0 0 ≡ Major)
    × (difference_after Patch candidate 0 0 ≡ Major) × (difference_after Patch candidate 3 0 ≡ Minor)
    × (difference_after PrePatch candidate 0 0 ≡ PrePatch) × (difference_after PreRelease candidate 0 0 ≡ PreRelease)
after-candidate = (refl, refl, refl, refl, refl, refl)

names-number : NamesNumber Major × NamesNumber PrePatch × ¬ NamesNumber PreRelease × ¬ NamesNumber Pre
names-number = (tt, tt, (λ h. h), (λ h. h))
