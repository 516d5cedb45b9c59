-- Worked examples: which versions are bumped ones, and which are not. npm's `inc`, as its README has it.
use Rattle.std.proofs.Common.{List, [], ◌∷◌, Some, None, arith, codes, inl, inr, refl}
use Rattle.npm_semver.specs.Bump.{HasBumpedPreRelease, IsBumped, IsInLimits, IsNew, IsUpward}
use Rattle.semver_texts.specs.IdentifierValue.{IdentifierValue, alphanumeric, numeric}
use Rattle.semver_texts.specs.Triple.{triple_of}
use Rattle.semver_texts.specs.Version.{VersionValue, release}
use Rattle.npm_semver.specs.declared.bump.Bump.TheVariants.{Major, Minor, Patch, Pre}
use Rattle.npm_semver.specs.declared.bump.Bump.TheVariants.{PreMajor, PreMinor, PrePatch, PreRelease}
use Rattle.npm_semver.specs.declared.bump.IdentifierBase.TheVariants.{Absent, One, Zero}

abbrev beta : IdentifierValue
beta = alphanumeric (codes "beta")

-- `2.0.0-rc.1`
abbrev candidate : VersionValue
candidate = record (release 2 0 0) { pre_release = alphanumeric (codes "rc") ∷ numeric 1 ∷ [] }

-- ---- numbers

-- a release goes on to the next major
next-major : IsBumped Major None Zero (release 1 2 3) (release 2 0 0)
next-major = record {
  triple = inr ((λ its. its.0 refl), (refl, refl, refl));
  limits = record { major = omega arith; minor = omega arith; patch = omega arith };
  pre_release = refl;
  build = refl;
}

-- a prerelease of a major becomes that one
its-major : IsBumped Major None Zero candidate (release 2 0 0)
its-major = record {
  triple = inl (((λ e. cc e), refl, refl), (refl, refl, refl));
  limits = record { major = omega arith; minor = omega arith; patch = omega arith };
  pre_release = refl;
  build = refl;
}

-- and not the next
not-past : ¬ IsBumped Major None Zero candidate (release 3 0 0)
not-past bumped = elim bumped.triple [
  | inl its ↦ cc its.1.0
  | inr next ↦ next.0 ((λ e. cc e), refl, refl)
]

-- a release does not stay
not-same : ¬ IsBumped Patch None Zero (release 1 2 3) (release 1 2 3)
not-same bumped = elim bumped.triple [
  | inl its ↦ its.0 refl
  | inr next ↦ cc next.1.2
]

-- a build is no part of a bumped version
no-build : ¬ IsBumped Patch None Zero (release 1 2 3) (record (release 1 2 4) { build = beta ∷ [] })
no-build bumped = cc bumped.build

-- nor is a number above the limit
no-large : ¬ IsInLimits (triple_of (release 9007199254740992 0 0))
no-large limits = omega (arith, limits.major)

-- ---- new prereleases

new-there : IsNew None Zero (numeric 0 ∷ []) × IsNew None One (numeric 1 ∷ [])
    × IsNew (Some beta) Zero (beta ∷ numeric 0 ∷ []) × IsNew (Some beta) Absent (beta ∷ [])
new-there = (((λ e. cc e), refl), ((λ e. cc e), refl), ((λ e. cc e), refl), ((λ e. cc e), refl))

-- another number, another identifier, none at all
not-new : ¬ IsNew None Zero (numeric 1 ∷ []) × ¬ IsNew (Some beta) Zero (beta ∷ numeric 1 ∷ [])
    × ¬ IsNew (Some beta) Zero (numeric 0 ∷ []) × ¬ IsNew None Zero []
not-new = ((λ h. cc h.1), (λ h. cc h.1), (λ h. cc h.1), (λ h. cc h.1))

-- nothing begins without an identifier and without a number
nothing-new : (other : List IdentifierValue) → ¬ IsNew None Absent other
nothing-new other h = h.0 refl

-- a release keeps no prerelease, and a new prerelease is the whole of it
releases-there : HasBumpedPreRelease Minor (Some beta) Zero (beta ∷ []) []
    × ¬ HasBumpedPreRelease Minor (Some beta) Zero [] (beta ∷ [])
    × ¬ HasBumpedPreRelease PreMinor (Some beta) Zero [] []
releases-there = (refl, (λ h. cc h), (λ h. cc h.1))

-- ---- which bumps never lead to a lower version

upward-there : IsUpward Major None × IsUpward Minor (Some beta) × IsUpward Patch None × IsUpward PreMajor (Some beta)
    × IsUpward PreMinor None × IsUpward PrePatch (Some beta) × IsUpward PreRelease None
upward-there = (tt, tt, tt, tt, tt, tt, tt)

not-upward : ¬ IsUpward Pre None × ¬ IsUpward Pre (Some beta) × ¬ IsUpward PreRelease (Some beta)
not-upward = ((λ h. h), (λ h. h), (λ h. h))
