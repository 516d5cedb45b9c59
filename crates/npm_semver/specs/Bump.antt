-- How a version is raised: npm's `inc`, as its README has it under "Functions" and "Prerelease Identifiers".
use Rattle.std.specs.Prelude.{◌≡◌, ◌≢◌, ◌⊎◌, ◌+◌, ◌≤◌, ◌<◌, ℕ, List, [], ◌∷◌, ◌++◌, Option, Some, None}
use Rattle.std.specs.List.{AllByRecursion}
use Rattle.std.specs.Borrow.{Bor}
use Rattle.semver_texts.specs.Identifier.{value_of}
use Rattle.semver_texts.specs.declared.identifier.Identifier.{Identifier}
use Rattle.semver_texts.specs.IdentifierValue.{IdentifierValue, numeric, alphanumeric}
use Rattle.semver_texts.specs.Triple.{triple_of}
use Rattle.semver_texts.specs.Version.{IsPrerelease, VersionValue}
use Rattle.semver_texts.specs.declared.triple.Triple.{Triple}
use Rattle.semver_texts.specs.declared.TheConstants.{MAX_SAFE_INTEGER}
use Rattle.npm_semver.specs.declared.bump.Bump.{Bump}
use Rattle.npm_semver.specs.declared.bump.Bump.TheVariants.{Major, Minor, Patch, Pre}
use Rattle.npm_semver.specs.declared.bump.Bump.TheVariants.{PreMajor, PreMinor, PrePatch, PreRelease}
use Rattle.npm_semver.specs.declared.bump.IdentifierBase.{IdentifierBase}
use Rattle.npm_semver.specs.declared.bump.IdentifierBase.TheVariants.{Absent, One, Zero}

-- ---- the three numbers

-- the triple has these three numbers
abbrev pub HasNumbers : Triple → ℕ → ℕ → ℕ → Type 0
HasNumbers t major minor patch = (t.major ≡ major) × (t.minor ≡ minor) × (t.patch ≡ patch)

-- a prerelease of a major: `2.0.0-rc.1`
abbrev pub IsBeforeMajor : VersionValue → Type 0
IsBeforeMajor v = IsPrerelease v × (v.minor ≡ 0) × (v.patch ≡ 0)

-- a prerelease of a minor: `1.2.0-rc.1`, and `2.0.0-rc.1`
abbrev pub IsBeforeMinor : VersionValue → Type 0
IsBeforeMinor v = IsPrerelease v × (v.patch ≡ 0)

-- The triple of the bumped version. A prerelease of a major, a minor or a patch becomes
-- that one. Any other version goes on to the next.
abbrev pub IsBumpedTriple : Bump → VersionValue → Triple → Type 0
-- `2.0.0` for `1.2.3`, and for `2.0.0-rc.1`
IsBumpedTriple Major v t = (IsBeforeMajor v × HasNumbers t v.major 0 0)
    ⊎ ((¬ IsBeforeMajor v) × HasNumbers t (v.major + 1) 0 0)
-- `1.3.0` for `1.2.3`, and for `1.3.0-rc.1`
IsBumpedTriple Minor v t = (IsBeforeMinor v × HasNumbers t v.major v.minor 0)
    ⊎ ((¬ IsBeforeMinor v) × HasNumbers t v.major (v.minor + 1) 0)
-- `1.2.4` for `1.2.3`, and for `1.2.4-rc.1`
IsBumpedTriple Patch v t = (IsPrerelease v × HasNumbers t v.major v.minor v.patch)
    ⊎ ((¬ IsPrerelease v) × HasNumbers t v.major v.minor (v.patch + 1))
-- `2.0.0-0`, `1.3.0-0` and `1.2.4-0` for `1.2.3`, and for `1.2.3-rc.1`
IsBumpedTriple PreMajor v t = HasNumbers t (v.major + 1) 0 0
IsBumpedTriple PreMinor v t = HasNumbers t v.major (v.minor + 1) 0
IsBumpedTriple PrePatch v t = HasNumbers t v.major v.minor (v.patch + 1)
-- `1.2.4-0` for `1.2.3`, and `1.2.4-rc.2` for `1.2.4-rc.1`
IsBumpedTriple PreRelease v t = (IsPrerelease v × HasNumbers t v.major v.minor v.patch)
    ⊎ ((¬ IsPrerelease v) × HasNumbers t v.major v.minor (v.patch + 1))
-- `1.2.3-0` for `1.2.3`
IsBumpedTriple Pre v t = HasNumbers t v.major v.minor v.patch

-- ---- the prerelease: npm's "Prerelease Identifiers" and "Prerelease Identifier Base"

-- a text
abbrev pub IsText : IdentifierValue → Type 0
IsText (numeric n) = ⊥
IsText (alphanumeric text) = Unit {0}

-- the number that a prerelease begins with, if it begins with one
abbrev pub base_identifiers : IdentifierBase → List IdentifierValue
base_identifiers Zero = numeric 0 ∷ []
base_identifiers One = numeric 1 ∷ []
base_identifiers Absent = []

-- a new prerelease: `beta.0` with the identifier `beta`, `0` without an identifier
abbrev pub new_identifiers : Option IdentifierValue → IdentifierBase → List IdentifierValue
new_identifiers None base = base_identifiers base
new_identifiers (Some identifier) base = identifier ∷ base_identifiers base

-- the last number of the identifiers, what stands before it, and the texts after it: `x`, 1 and `y` of `x.1.y`
pub record IsSplitAtLastNumber (identifiers before : List IdentifierValue) (number : ℕ) (after : List IdentifierValue)
    : Type 0 where
  pub whole : identifiers ≡ before ++ (numeric number ∷ after)
  pub texts : AllByRecursion IsText after

-- that number is raised by one: `beta.2` for `beta.1`, `1.3.x` for `1.2.x`
pub record IsRaised (one other : List IdentifierValue) : Type 0 where
  pub before : List IdentifierValue
  pub number : ℕ
  pub after : List IdentifierValue
  pub split : IsSplitAtLastNumber one before number after
  pub raised : other ≡ before ++ (numeric (number + 1) ∷ after)
  pub limit : number < MAX_SAFE_INTEGER

-- the identifiers begin with this one and a number: `beta.1`
pub record BeginsNumbered (identifier : IdentifierValue) (identifiers : List IdentifierValue) : Type 0 where
  pub number : ℕ
  pub rest : List IdentifierValue
  pub whole : identifiers ≡ identifier ∷ numeric number ∷ rest

-- The identifiers after those of a prerelease. Without an identifier the last number is raised, or the base is added if
-- there is no number. With one the last number is raised if the prerelease begins with it and a number. Otherwise a new
-- prerelease begins, which must be another one.
abbrev pub IsNext : Option IdentifierValue → IdentifierBase → List IdentifierValue → List IdentifierValue → Type 0
-- `beta.2` after `beta.1`, `beta.0` after `beta`
IsNext None base one other = IsRaised one other ⊎ (AllByRecursion IsText one × (other ≡ one ++ base_identifiers base))
-- with `beta`: `beta.2` after `beta.1`, `beta.0` after `alpha.1`
IsNext (Some identifier) base one other = (BeginsNumbered identifier one × IsRaised one other)
    ⊎ ((¬ BeginsNumbered identifier one) × (other ≡ new_identifiers (Some identifier) base) × (other ≢ one))

-- none are next: the number to raise is at the limit, or the new prerelease would be the same
abbrev pub HasNoNext : Option IdentifierValue → IdentifierBase → List IdentifierValue → Type 0
HasNoNext identifier base one = (other : List IdentifierValue) → ¬ IsNext identifier base one other

-- a prerelease can begin: with an identifier, with a number or with both
abbrev pub HasBeginning : Option IdentifierValue → IdentifierBase → Type 0
HasBeginning identifier base = new_identifiers identifier base ≢ []

-- it is a new prerelease
abbrev pub IsNew : Option IdentifierValue → IdentifierBase → List IdentifierValue → Type 0
IsNew identifier base other = HasBeginning identifier base × (other ≡ new_identifiers identifier base)

-- the prerelease after that of a version; a release has none, and so gets a new one
abbrev pub IsNextOf : Option IdentifierValue → IdentifierBase → List IdentifierValue → List IdentifierValue → Type 0
IsNextOf identifier base [] other = IsNew identifier base other
IsNextOf identifier base (x ∷ xs) other =
    HasBeginning identifier base × IsNext identifier base (x ∷ xs) other

-- the prerelease of the bumped version
abbrev pub HasBumpedPreRelease : Bump → Option IdentifierValue → IdentifierBase → List IdentifierValue
    → List IdentifierValue → Type 0
HasBumpedPreRelease Major identifier base one other = other ≡ []
HasBumpedPreRelease Minor identifier base one other = other ≡ []
HasBumpedPreRelease Patch identifier base one other = other ≡ []
HasBumpedPreRelease PreMajor identifier base one other = IsNew identifier base other
HasBumpedPreRelease PreMinor identifier base one other = IsNew identifier base other
HasBumpedPreRelease PrePatch identifier base one other = IsNew identifier base other
HasBumpedPreRelease PreRelease identifier base one other = IsNextOf identifier base one other
HasBumpedPreRelease Pre identifier base one other = IsNextOf identifier base one other

-- ---- the bumped version

-- no number is above the limit
pub record IsInLimits (t : Triple) : Type 0 where
  pub major : t.major ≤ MAX_SAFE_INTEGER
  pub minor : t.minor ≤ MAX_SAFE_INTEGER
  pub patch : t.patch ≤ MAX_SAFE_INTEGER

-- a number of the bumped version is above the limit
abbrev pub IsAboveLimits : Bump → VersionValue → Type 0
IsAboveLimits bump v = (t : Triple) → IsBumpedTriple bump v t → ¬ IsInLimits t

-- the version after a bump, with an identifier for its prerelease, if there is one
pub record IsBumped (bump : Bump) (identifier : Option IdentifierValue) (base : IdentifierBase)
    (v w : VersionValue) : Type 0 where
  pub triple : IsBumpedTriple bump v (triple_of w)
  pub limits : IsInLimits (triple_of w)
  pub pre_release : HasBumpedPreRelease bump identifier base v.pre_release w.pre_release
  pub build : w.build ≡ []

-- what a contract sees of an identifier that may be left out
abbrev pub identifier_seen : Option (Bor Identifier) → Option IdentifierValue
identifier_seen None = None
identifier_seen (Some identifier) = Some (value_of identifier.now)

-- the bump never leads to a lower version; npm's README warns of `pre`, and an identifier such as `alpha` can be below
-- the one that a prerelease has
abbrev pub IsUpward : Bump → Option IdentifierValue → Type 0
IsUpward Pre identifier = ⊥
IsUpward PreRelease (Some identifier) = ⊥
IsUpward PreRelease None = Unit {0}
IsUpward bump identifier = Unit {0}
