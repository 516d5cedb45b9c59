-- A bumped version is above the version, but after `pre`, and after `prerelease` with an identifier.
use Rattle.std.proofs.Common.{◌≡◌, ◌≢◌, ◌+◌, List, [], ◌∷◌, ◌++◌, Option, Some, None, arith, inl, inr, refl, sym}
use Rattle.npm_semver.specs.Bump.{IsBumped, IsNextOf, IsUpward}
use Rattle.semver_texts.specs.IdentifierValue.{IdentifierValue}
use Rattle.semver_texts.specs.Order.{IsBelow, IsIdentifierBelow, IsListBelow}
use Rattle.semver_texts.specs.Order.{by_major, by_minor, by_patch}
use Rattle.semver_texts.specs.Triple.{triple_of}
use Rattle.semver_texts.specs.Version.{HasSameTriple, IsPrerelease, VersionValue}
use Rattle.npm_semver.specs.declared.bump.Bump.{Bump}
use Rattle.npm_semver.specs.declared.bump.Bump.TheVariants.{Major, Minor, Patch, Pre}
use Rattle.npm_semver.specs.declared.bump.Bump.TheVariants.{PreMajor, PreMinor, PrePatch, PreRelease}
use Rattle.npm_semver.specs.declared.bump.IdentifierBase.{IdentifierBase}

-- ---- identifiers

-- more identifiers
longer : (one more : List IdentifierValue) → more ≢ [] → IsListBelow IsIdentifierBelow one (one ++ more)
longer one [] some = absurd (some refl)
longer one (x ∷ more) some = inl (record { next = x; rest = more; goes_on = refl })

pub next-below : (base : IdentifierBase) (one other : List IdentifierValue) → one ≢ [] → IsNextOf None base one other
    → IsListBelow IsIdentifierBelow one other
next-below base [] other some next = absurd (some refl)
next-below base (x ∷ xs) other some next = grind (arith, longer)

some-append : {A : Type 0} (before : List A) (x : A) (after : List A) → before ++ (x ∷ after) ≢ []
some-append [] x after same = cc same
some-append (y ∷ before) x after same = cc same

-- ---- by the kinds of bump

-- the next prerelease of a prerelease
pub next-above : (base : IdentifierBase) (v w : VersionValue) → HasSameTriple v w → IsPrerelease v
    → IsNextOf None base v.pre_release w.pre_release → IsBelow v w
next-above base v w triple pre next = grind (arith, next-below, some-append)

pub same-triple : (v w : VersionValue) → (triple_of w).major ≡ v.major → (triple_of w).minor ≡ v.minor
    → (triple_of w).patch ≡ v.patch → HasSameTriple v w
same-triple v w major minor patch = record { major = sym major; minor = sym minor; patch = sym patch }

next-major : (v w : VersionValue) → w.major ≡ v.major + 1 → IsBelow v w
next-major v w major = by_major (omega (arith, major))

next-minor : (v w : VersionValue) → w.major ≡ v.major → w.minor ≡ v.minor + 1 → IsBelow v w
next-minor v w major minor = by_minor (sym major) (omega (arith, minor))

next-patch : (v w : VersionValue) → w.major ≡ v.major → w.minor ≡ v.minor → w.patch ≡ v.patch + 1 → IsBelow v w
next-patch v w major minor patch = by_patch (sym major) (sym minor) (omega (arith, patch))

pub above-version : (bump : Bump) (identifier : Option IdentifierValue) (base : IdentifierBase) (v w : VersionValue)
    → IsUpward bump identifier → IsBumped bump identifier base v w → IsBelow v w
above-version Major identifier base v w up bumped = grind (arith, same-triple, next-major)
above-version Minor identifier base v w up bumped = grind (arith, same-triple, next-minor)
above-version Patch identifier base v w up bumped = grind (arith, same-triple, next-patch)
above-version PreMajor identifier base v w up bumped = next-major v w bumped.triple.0
above-version PreMinor identifier base v w up bumped = next-minor v w bumped.triple.0 bumped.triple.1
above-version PrePatch identifier base v w up bumped = next-patch v w bumped.triple.0 bumped.triple.1 bumped.triple.2
above-version PreRelease (Some identifier) base v w up bumped = absurd up
above-version PreRelease None base v w up bumped = elim bumped.triple [
  | inl before ↦ next-above base v w (same-triple v w before.1.0 before.1.1 before.1.2) before.0 bumped.pre_release
  | inr next ↦ next-patch v w next.1.0 next.1.1 next.1.2
]
above-version Pre identifier base v w up bumped = absurd up
