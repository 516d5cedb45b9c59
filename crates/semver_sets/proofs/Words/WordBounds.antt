-- What a word of a range text writes: a comparator with ends that a range can have, or none.
use native.Mathlib.Omega.{arith}
use Rattle.std.proofs.Common.{List, ◌+◌, ℕ, Option, Some, None, sym, subst}
use Rattle.std.specs.Prelude.{IfSome}
use Rattle.semver_texts.specs.Version.{VersionValue}
use Rattle.semver_sets.specs.Comparator.{Comparator}
use Rattle.semver_sets.specs.Division.{IsWord, hyphen_range, ignored, simple}
use Rattle.semver_sets.specs.HyphenRanges.{IsHyphenText, IsLeftText, left_cut, right_cut, right_row}
use Rattle.semver_sets.specs.Lemmas.Comparators.{IsReadComparator, IsReadEnds, least-end, version-end}
use Rattle.semver_sets.specs.PartialText.{Partial, zeroed}
use Rattle.semver_sets.specs.RangeSets.{IsRangeCut, IsRangeEnd}
use Rattle.semver_sets.proofs.Words.PartialBounds.{IsReadComponent, IsReadPartial, partial-read, zeroed-read}
use Rattle.semver_sets.proofs.Words.SimpleHolds.{simple-read}

-- the ends of a word, where it writes a comparator
abbrev pub IsReadWord : Option Comparator → Type 0
IsReadWord None = Unit {0}
IsReadWord (Some c) = IsReadEnds c

simple-word : (c : Option Comparator) → IfSome c IsReadComparator → IsReadWord c
simple-word None is = tt
simple-word (Some c) is = is.ends

left-read : (text : List ℕ) (left : Option Partial) → IsLeftText text left → IsRangeCut (left_cut left)
left-read text left h1 = grind (arith, version-end, zeroed-read, partial-read)

right-end : (major minor patch : Option ℕ) (z : VersionValue) → IsReadComponent major → IsReadComponent minor
    → IsRangeEnd z → IsRangeCut (right_row major minor patch z)
right-end (Some m) (Some n) None z a b is = least-end m (n + 1) 0 (omega (arith, a), omega (arith, b), omega arith)
right-end (Some m) None None z a b is = least-end (m + 1) 0 0 (omega (arith, a), omega arith, omega arith)
right-end None None None z a b is = least-end 0 0 0 (omega arith, omega arith, omega arith)
right-end None (Some n) None z a b is = is
right-end (Some m) (Some n) (Some p) z a b is = is
right-end (Some m) None (Some p) z a b is = is
right-end None None (Some p) z a b is = is
right-end None (Some n) (Some p) z a b is = is

right-read : (p : Partial) → IsReadPartial p → IsRangeCut (right_cut p)
right-read p is = right-end p.major p.minor p.patch (zeroed p) is.major is.minor (version-end (zeroed p) (zeroed-read p is))

hyphen-word : (text : List ℕ) (c : Option Comparator) → IsHyphenText text c → IsReadWord c
hyphen-word text c is =
    grind (
      arith,
      left-read is.left_text is.left is.left_read,
      right-read is.right (partial-read is.right_text is.right is.right_read),
    )

pub word-bounded : (word rest : List ℕ) (c : Option Comparator) → IsWord word rest c → IsReadWord c
word-bounded word rest c (hyphen_range is clean) = hyphen-word word c is
word-bounded word rest c (simple none is clean) = simple-word c (simple-read word c is)
word-bounded word rest c (ignored none nothing solid clean same) = subst IsReadWord (sym same) tt
