-- A word that is no hyphen range writes a comparator that holds a cut, with ends that a range can have.
use native.Mathlib.Omega.{arith}
use Rattle.std.proofs.Common.{◌≡◌, ◌+◌, zero, suc, List, ℕ, Option, None, Some, sym, subst}
use Rattle.std.specs.Prelude.{IfSome}
use Rattle.semver_cuts.specs.Ends.{IsCutBelow}
use Rattle.semver_texts.specs.Comparison.{version_cmp}
use Rattle.semver_texts.specs.IdentifierValue.{IdentifierValue}
use Rattle.semver_texts.specs.Version.{VersionValue, least_of, release, without_build}
use Rattle.semver_sets.specs.Comparator.{Comparator}
use Rattle.semver_sets.specs.Division.{IsSimpleText, by_caret, by_operator, by_tilde, plain}
use Rattle.semver_sets.specs.CaretRanges.{caret_row}
use Rattle.semver_sets.specs.Operators.{Operator, equal, equal_row, greater, greater_or_equal, greater_row, less}
use Rattle.semver_sets.specs.Operators.{less_or_equal, less_or_equal_row, less_row, operator_row, plain_row}
use Rattle.semver_sets.specs.Lemmas.Comparators.{IsReadComparator, above-read, at_least-read, at_most-read, below-read}
use Rattle.semver_sets.specs.Lemmas.Comparators.{exactly-read, least-end, next_major-read, next_minor-read}
use Rattle.semver_sets.specs.Lemmas.Comparators.{next_patch-read, release-end, version-end, with_major-read}
use Rattle.semver_sets.specs.Lemmas.Comparators.{with_minor-read}
use Rattle.semver_sets.specs.PartialText.{Partial, by_row, zeroed}
use Rattle.semver_sets.specs.RangeSets.{IsRangeEnd}
use Rattle.semver_sets.specs.TildeRanges.{tilde_greater_row, tilde_row, with_tilde, with_tilde_greater}
use Rattle.semver_sets.proofs.Words.PartialBounds.{IsReadPartial, bare-read, led-read, partial-read, zeroed-read}

-- a partial of these parts
abbrev partial : (major minor patch : Option ℕ) (pre_release build : List IdentifierValue) → Partial
partial major minor patch pre_release build = record {
  major = major;
  minor = minor;
  patch = patch;
  pre_release = pre_release;
  build = build;
}

-- the comparator of a row for a partial that is read, if there is one
abbrev RowReads : ((major minor patch : Option ℕ) (z : VersionValue) → Option Comparator) → Type 0
RowReads row = (major minor patch : Option ℕ) (pre_release build : List IdentifierValue)
    → IsReadPartial (partial major minor patch pre_release build)
    → IfSome (by_row row (partial major minor patch pre_release build)) IsReadComparator

-- the version of a partial
itself : (p : Partial) → IsReadPartial p → IsRangeEnd (zeroed p)
itself p is = version-end (zeroed p) (zeroed-read p is)

plain-reads : RowReads plain_row
plain-reads (Some m) (Some n) (Some p) e b is =
    exactly-read (zeroed (partial (Some m) (Some n) (Some p) e b)) (itself (partial (Some m) (Some n) (Some p) e b) is)
plain-reads (Some m) (Some n) None e b is = with_minor-read m n is.major is.minor
plain-reads (Some m) None patch e b is = with_major-read m is.major
plain-reads None minor patch e b is =
    at_least-read (release 0 0 0) (release-end 0 0 0 (omega arith, omega arith, omega arith))

equal-reads : RowReads equal_row
equal-reads (Some m) (Some n) (Some p) e b is =
    let q = partial (Some m) (Some n) (Some p) e b in exactly-read (without_build (zeroed q)) (bare-read q is)
equal-reads (Some m) (Some n) None e b is = with_minor-read m n is.major is.minor
equal-reads (Some m) None patch e b is = with_major-read m is.major
equal-reads None minor patch e b is = tt

greater-reads : RowReads greater_row
greater-reads (Some m) (Some n) (Some p) e b is =
    let q = partial (Some m) (Some n) (Some p) e b in above-read (zeroed q) (itself q is)
greater-reads (Some m) (Some n) None e b is =
    at_least-read (release m (n + 1) 0)
    (release-end m (n + 1) 0 (omega (arith, is.major), omega (arith, is.minor), omega arith))
greater-reads (Some m) None (Some p) e b is =
    let q = partial (Some m) None (Some p) e b in above-read (zeroed q) (itself q is)
greater-reads (Some m) None None e b is =
    at_least-read (release (m + 1) 0 0) (release-end (m + 1) 0 0 (omega (arith, is.major), omega arith, omega arith))
greater-reads None minor patch e b is =
    let q = partial None minor patch e b in above-read (zeroed q) (itself q is)

less-reads : RowReads less_row
less-reads (Some m) (Some n) (Some p) e b is =
    let q = partial (Some m) (Some n) (Some p) e b in below-read (zeroed q) (itself q is)
less-reads (Some m) (Some n) None e b is =
    below-read (least_of m n 0) (least-end m n 0 (omega (arith, is.major), omega (arith, is.minor), omega arith))
less-reads (Some m) None patch e b is =
    let q = partial (Some m) None patch e b in below-read (zeroed q) (itself q is)
less-reads None minor patch e b is =
    let q = partial None minor patch e b in below-read (zeroed q) (itself q is)

less_or_equal-reads : RowReads less_or_equal_row
less_or_equal-reads major minor (Some p) e b is =
    let q = partial major minor (Some p) e b in at_most-read (zeroed q) (itself q is)
less_or_equal-reads major minor None e b is =
    let q = partial major minor None e b in
    let end = itself q is in
    at_most-read (least_of (zeroed q).major (zeroed q).minor 0)
    (least-end (zeroed q).major (zeroed q).minor 0 (end.major, end.minor, omega arith))

operator-reads : (o : Operator) → RowReads (operator_row o)
operator-reads greater_or_equal major minor patch e b is =
    let q = partial major minor patch e b in at_least-read (zeroed q) (itself q is)
operator-reads greater major minor patch e b is = greater-reads major minor patch e b is
operator-reads equal major minor patch e b is = equal-reads major minor patch e b is
operator-reads less_or_equal major minor patch e b is = less_or_equal-reads major minor patch e b is
operator-reads less major minor patch e b is = less-reads major minor patch e b is

tilde-reads : RowReads tilde_row
tilde-reads (Some m) (Some n) (Some p) e b is =
    let q = partial (Some m) (Some n) (Some p) e b in
    next_minor-read (without_build (zeroed q)) (bare-read q is) is.minor
tilde-reads (Some m) (Some n) None e b is = with_minor-read m n is.major is.minor
tilde-reads (Some m) None (Some p) e b is = tt
tilde-reads (Some m) None None e b is = with_major-read m is.major
tilde-reads None minor patch e b is = tt

tilde_greater-reads : RowReads tilde_greater_row
tilde_greater-reads (Some m) (Some n) (Some p) e b is = tilde-reads (Some m) (Some n) (Some p) e b is
tilde_greater-reads (Some m) (Some n) None e b is =
    let q = partial (Some m) (Some n) None e b in
    next_minor-read (without_build (zeroed q)) (bare-read q is) is.minor
tilde_greater-reads (Some m) None patch e b is = tilde-reads (Some m) None patch e b is
tilde_greater-reads None minor patch e b is = tt

caret-reads : RowReads caret_row
caret-reads (Some zero) None None e b is =
    below-read (least_of 1 0 0) (least-end 1 0 0 (omega arith, omega arith, omega arith))
caret-reads (Some (suc m)) None None e b is = with_major-read (suc m) is.major
caret-reads (Some zero) (Some n) None e b is = with_minor-read 0 n is.major is.minor
caret-reads (Some (suc m)) (Some n) None e b is =
    next_major-read (release (suc m) n 0)
    (release-end (suc m) n 0 (omega (arith, is.major), omega (arith, is.minor), omega arith)) is.major
caret-reads (Some zero) (Some zero) (Some p) e b is =
    let q = partial (Some 0) (Some 0) (Some p) e b in
    next_patch-read (without_build (zeroed q)) (bare-read q is) is.patch
caret-reads (Some zero) (Some (suc n)) (Some p) e b is =
    let q = partial (Some 0) (Some (suc n)) (Some p) e b in
    next_minor-read (without_build (zeroed q)) (bare-read q is) is.minor
caret-reads (Some (suc m)) (Some n) (Some p) e b is =
    let q = partial (Some (suc m)) (Some n) (Some p) e b in
    next_major-read (without_build (zeroed q)) (bare-read q is) is.major
caret-reads (Some zero) None (Some p) e b is = tt
caret-reads (Some (suc m)) None (Some p) e b is = tt
caret-reads None minor patch e b is = tt

-- what a row gives for a partial that is read
row-reads : (row : (major minor patch : Option ℕ) (z : VersionValue) → Option Comparator) → RowReads row
    → (p : Partial) (c : Option Comparator) → IsReadPartial p → c ≡ by_row row p → IfSome c IsReadComparator
row-reads row reads p c is says =
    subst (λ (o : Option Comparator). IfSome o IsReadComparator) (sym says)
    (reads p.major p.minor p.patch p.pre_release p.build is)

pub simple-read : (text : List ℕ) (c : Option Comparator) → IsSimpleText text c → IfSome c IsReadComparator
simple-read text c (by_operator w) =
    row-reads (operator_row w.operator) (operator-reads w.operator) w.partial c (led-read _ text w.partial w.written)
    w.says
simple-read text c (plain w) =
    row-reads plain_row plain-reads w.partial c (partial-read text w.partial w.written) w.says
simple-read text c (by_tilde (with_tilde p led says)) =
    row-reads tilde_row tilde-reads p c (led-read _ text p led) says
simple-read text c (by_tilde (with_tilde_greater blanks p blank led says)) =
    row-reads tilde_greater_row tilde_greater-reads p c (led-read _ text p led) says
simple-read text c (by_caret w) =
    row-reads caret_row caret-reads w.partial c (led-read _ text w.partial w.written) w.says

-- the comparator of a word that is no hyphen range holds a cut
pub simple-below : (text : List ℕ) (c : Comparator) → IsSimpleText text (Some c)
    → IsCutBelow version_cmp c.lower c.upper
simple-below text c is = (simple-read text (Some c) is).below
