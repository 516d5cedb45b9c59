-- How many comparisons a search in a range takes. A release is found by binary search among the merged spans of the
-- sets. A prerelease is looked for in the sets with an end that opens its triple.
use Rattle.std.specs.Prelude.{ℕ, ◌+◌, ◌*◌, ◌^◌, ◌<◌, ◌≤◌, ◌==◌, ◌&&◌, ◌||◌, Bool, true, false, List, [], ◌∷◌, count_by}
use Rattle.semver_cuts.specs.declared.cut.Cut.{Cut}
use Rattle.semver_cuts.specs.declared.cut.Cut.TheVariants.{Start, Before, After, End}
use Rattle.semver_cuts.specs.Ends.{Ends}
use Rattle.semver_cuts.specs.Starts.{count_of_starts}
use Rattle.semver_texts.specs.Comparison.{version_cmp}
use Rattle.semver_texts.specs.IdentifierValue.{IdentifierValue}
use Rattle.semver_sets.specs.Meaning.{RangeAdmits, RangeContains}
use Rattle.semver_texts.specs.Version.{IsPrerelease, VersionValue}

-- ---- what `Meaning` says of ends, as tests

abbrev pub has_identifiers : List IdentifierValue → Bool
has_identifiers [] = false
has_identifiers (first ∷ others) = true

-- `HasSameTriple` as a test
abbrev pub has_same_triple : VersionValue → VersionValue → Bool
has_same_triple v w = (v.major == w.major) && (v.minor == w.minor) && (v.patch == w.patch)

-- `Opens` as a test
abbrev pub opens : Cut VersionValue → VersionValue → Bool
opens Start v = false
opens (Before p) v = has_identifiers p.pre_release && has_same_triple p v
opens (After p) v = has_identifiers p.pre_release && has_same_triple p v
opens End v = false

-- `HasOpenEnd` as a test
abbrev pub has_open_end : VersionValue → Ends VersionValue → Bool
has_open_end v set = opens set.lower v || opens set.upper v

-- ---- counts

-- the number of sets with an end that opens the version's triple
abbrev pub count_of_opening : VersionValue → List (Ends VersionValue) → ℕ
count_of_opening v sets = count_by (has_open_end v) sets

-- the number has at most that many binary digits: 5 has 3
abbrev pub HasDigits : ℕ → ℕ → Type 0
HasDigits number digits = number < 2 ^ digits

-- The count never falls. For a release it grows by at most the number of binary digits of the number of merged spans,
-- plus one. For a prerelease it grows by at most two for each set with an end that opens its triple. For a version that
-- is admitted it grows by at least two: the version is compared with a lower and an upper end.
pub record IsShortSearch (sets : List (Ends VersionValue)) (v : VersionValue) (before after : ℕ) : Type 0 where
  pub adds : before ≤ after
  pub release : ¬ IsPrerelease v → (digits : ℕ) → HasDigits (count_of_starts version_cmp sets) digits
      → after ≤ before + digits + 1
  pub prerelease : IsPrerelease v → after ≤ before + 2 * count_of_opening v sets
  pub admitted : RangeAdmits sets v → before + 2 ≤ after

-- The count never falls. For any version, also a prerelease, it grows by at most the number of binary digits of the
-- number of merged spans, plus one. For a version that the range contains it grows by at least two.
pub record IsShortSearchInside (sets : List (Ends VersionValue)) (v : VersionValue) (before after : ℕ) : Type 0 where
  pub adds : before ≤ after
  pub short : (digits : ℕ) → HasDigits (count_of_starts version_cmp sets) digits → after ≤ before + digits + 1
  pub contained : RangeContains sets v → before + 2 ≤ after
