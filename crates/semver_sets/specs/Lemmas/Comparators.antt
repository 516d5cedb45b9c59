-- Comparators that words write: they hold a cut, and their ends are ones that a range can have.
use Rattle.std.proofs.Common.{◌≤◌, ◌+◌, ℕ, [], ◌∷◌, arith, refl, ap}
use Rattle.std.specs.Cmp.{tied_itself}
use Rattle.std.specs.List.{AllByRecursion}
use Rattle.std.specs.Ordering.{ordering_then}
use Rattle.std.specs.declared.cmp.Ordering.TheVariants.{Less}
use Rattle.semver_cuts.specs.Ends.{IsCutBelow}
use Rattle.semver_cuts.specs.Lemmas.TwoSpans.{holds-below}
use Rattle.semver_texts.specs.Comparison.{version_cmp}
use Rattle.semver_texts.specs.IdentifierText.{IsReadIdentifier}
use Rattle.semver_texts.specs.IdentifierValue.{numeric}
use Rattle.semver_texts.specs.Lemmas.Public.{version-Less, version_total}
use Rattle.semver_texts.specs.Order.{IsBelow, by_major, by_minor, by_patch}
use Rattle.semver_texts.specs.Version.{VersionValue, least_of, release}
use Rattle.semver_texts.specs.declared.TheConstants.{MAX_SAFE_INTEGER}
use Rattle.semver_sets.specs.Comparator.{Comparator, above, at_least, at_most, below, exactly, from_up_to}
use Rattle.semver_sets.specs.Comparator.{with_major, with_minor}
use Rattle.semver_sets.specs.FullTexts.{AreInLimit, full_set}
use Rattle.semver_sets.specs.RangeSets.{IsRangeCut, IsRangeEnd, IsRangeSet}
use Rattle.semver_sets.specs.declared.read.full.Form.{Form}
use Rattle.semver_sets.specs.declared.read.full.Form.TheVariants.{Exactly, ToNextMajor, ToNextMinor, ToNextPatch}

-- both ends are ones that a range can have
pub record IsReadEnds (c : Comparator) : Type 0 where
  pub lower : IsRangeCut c.lower
  pub upper : IsRangeCut c.upper

-- the numbers and the identifiers are those of a text
pub record IsReadVersion (v : VersionValue) : Type 0 where
  pub major : v.major ≤ MAX_SAFE_INTEGER
  pub minor : v.minor ≤ MAX_SAFE_INTEGER
  pub patch : v.patch ≤ MAX_SAFE_INTEGER
  pub pre_release : AllByRecursion IsReadIdentifier v.pre_release
  pub build : AllByRecursion IsReadIdentifier v.build

-- the lower end is less than the upper, and both are ones that a range can have
pub record IsReadComparator (c : Comparator) : Type 0 where
  pub below : IsCutBelow version_cmp c.lower c.upper
  pub ends : IsReadEnds c

-- ---- versions at ends

-- each number is at most one above the limit
abbrev pub AreSmall : ℕ → ℕ → ℕ → Type 0
AreSmall m n p = (m ≤ MAX_SAFE_INTEGER + 1) × (n ≤ MAX_SAFE_INTEGER + 1) × (p ≤ MAX_SAFE_INTEGER + 1)

zero-read : IsReadIdentifier (numeric 0)
zero-read = (48 ∷ [], (refl, refl), refl)

pub least-end : (m n p : ℕ) → AreSmall m n p → IsRangeEnd (least_of m n p)
least-end m n p small = grind (arith, zero-read)

pub release-end : (m n p : ℕ) → AreSmall m n p → IsRangeEnd (release m n p)
release-end m n p small = record { major = small.0; minor = small.1; patch = small.2; pre_release = tt; build = tt }

pub version-end : (v : VersionValue) → IsReadVersion v → IsRangeEnd v
version-end v is = grind arith

-- ---- comparators

exactly-below : (v : VersionValue) → IsCutBelow version_cmp (exactly v).lower (exactly v).upper
exactly-below v = ap (λ r. ordering_then r Less) (tied_itself version_total v)

pub exactly-read : (v : VersionValue) → IsRangeEnd v → IsReadComparator (exactly v)
exactly-read v is = record { below = exactly-below v; ends = record { lower = is; upper = is } }

pub at_least-read : (v : VersionValue) → IsRangeEnd v → IsReadComparator (at_least v)
at_least-read v is = record { below = refl; ends = record { lower = is; upper = tt } }

pub above-read : (v : VersionValue) → IsRangeEnd v → IsReadComparator (above v)
above-read v is = record { below = refl; ends = record { lower = is; upper = tt } }

pub at_most-read : (v : VersionValue) → IsRangeEnd v → IsReadComparator (at_most v)
at_most-read v is = record { below = refl; ends = record { lower = tt; upper = is } }

pub below-read : (v : VersionValue) → IsRangeEnd v → IsReadComparator (below v)
below-read v is = record { below = refl; ends = record { lower = tt; upper = is } }

up_to-read : (v w : VersionValue) → IsRangeEnd v → IsRangeEnd w → IsBelow v w → IsReadComparator (from_up_to v w)
up_to-read v w lower upper h = record {
  below = version-Less v w h;
  ends = record { lower = lower; upper = upper };
}

-- up to the next major, minor or patch
pub next_major-read : (v : VersionValue) → IsRangeEnd v → v.major ≤ MAX_SAFE_INTEGER
    → IsReadComparator (from_up_to v (least_of (v.major + 1) 0 0))
next_major-read v is small =
    up_to-read v (least_of (v.major + 1) 0 0) is
    (least-end (v.major + 1) 0 0 (omega (arith, small), omega arith, omega arith)) (by_major (omega arith))

pub next_minor-read : (v : VersionValue) → IsRangeEnd v → v.minor ≤ MAX_SAFE_INTEGER
    → IsReadComparator (from_up_to v (least_of v.major (v.minor + 1) 0))
next_minor-read v is small =
    up_to-read v (least_of v.major (v.minor + 1) 0) is
    (least-end v.major (v.minor + 1) 0 (is.major, omega (arith, small), omega arith)) (by_minor refl (omega arith))

pub next_patch-read : (v : VersionValue) → IsRangeEnd v → v.patch ≤ MAX_SAFE_INTEGER
    → IsReadComparator (from_up_to v (least_of v.major v.minor (v.patch + 1)))
next_patch-read v is small =
    up_to-read v (least_of v.major v.minor (v.patch + 1)) is
    (least-end v.major v.minor (v.patch + 1) (is.major, is.minor, omega (arith, small)))
    (by_patch refl refl (omega arith))

pub with_major-read : (major : ℕ) → major ≤ MAX_SAFE_INTEGER → IsReadComparator (with_major major)
with_major-read major small =
    next_major-read (release major 0 0)
    (release-end major 0 0 (omega (arith, small), omega arith, omega arith)) small

pub with_minor-read : (major minor : ℕ) → major ≤ MAX_SAFE_INTEGER → minor ≤ MAX_SAFE_INTEGER
    → IsReadComparator (with_minor major minor)
with_minor-read major minor small small' =
    next_minor-read (release major minor 0)
    (release-end major minor 0 (omega (arith, small), omega (arith, small'), omega arith)) small'

-- ---- sets of full versions

full-end : (major minor patch : ℕ) → AreInLimit major minor patch → IsRangeEnd (release major minor patch)
full-end major minor patch limit =
    release-end major minor patch
    (omega (arith, limit.major_limit), omega (arith, limit.minor_limit), omega (arith, limit.patch_limit))

full-read : (form : Form) (major minor patch : ℕ) → AreInLimit major minor patch
    → IsReadComparator (full_set form major minor patch)
full-read Exactly major minor patch limit =
    exactly-read (release major minor patch) (full-end major minor patch limit)
full-read ToNextMajor major minor patch limit =
    next_major-read (release major minor patch) (full-end major minor patch limit) limit.major_limit
full-read ToNextMinor major minor patch limit =
    next_minor-read (release major minor patch) (full-end major minor patch limit) limit.minor_limit
full-read ToNextPatch major minor patch limit =
    next_patch-read (release major minor patch) (full-end major minor patch limit) limit.patch_limit

-- a range can have the set of a full version
pub full-set : (form : Form) (major minor patch : ℕ) → AreInLimit major minor patch
    → IsRangeSet (full_set form major minor patch)
full-set form major minor patch limit =
    let is = full-read form major minor patch limit in
    record {
      holds = (holds-below version_total (full_set form major minor patch)).1 is.below;
      lower = is.ends.lower;
      upper = is.ends.upper;
    }
