-- The print of a set is one word, or two with a blank between, whose comparators merge into a set of the same cuts.
use native.Mathlib.Omega.{arith}
use Rattle.std.proofs.Common.{◌≡◌, ℕ, List, [], ◌∷◌, ◌++◌, Some, Equal, codes, refl, sym, subst, inl, inr}
use Rattle.std.proofs.lemmas.Bool.{cases_Bool, cond-false, cond-true}
use Rattle.std.specs.Cmp.{Equal-is, tied_itself}
use Rattle.std.specs.Ordering.{eq_by_cmp}
use Rattle.semver_cuts.specs.declared.cut.Cut.{Cut}
use Rattle.semver_cuts.specs.declared.cut.Cut.TheVariants.{Start, Before, After, End}
use Rattle.semver_cuts.specs.Ends.{AreSameEnds, Ends, HoldsCut, IsCutBelow, span_between}
use Rattle.semver_cuts.specs.Lemmas.TwoSpans.{holds-below}
use Rattle.semver_cuts.specs.Lemmas.CutOrder.{cut_total}
use Rattle.semver_texts.specs.Characters.{BeginsWith}
use Rattle.semver_sets.specs.Comparator.{Comparator, above, at_least, at_most, below, exactly}
use Rattle.semver_texts.specs.Comparison.{version_cmp}
use Rattle.semver_sets.specs.Division.{IsAlternative}
use Rattle.semver_texts.specs.Characters.{IsCleanEnd}
use Rattle.semver_texts.specs.Lemmas.Public.{IsTextVersion, begins-append, version_total}
use Rattle.semver_sets.specs.Merging.{IsSetOf}
use Rattle.semver_sets.specs.Operators.{greater, greater_or_equal, less, less_or_equal}
use Rattle.semver_texts.specs.Print.{version_text}
use Rattle.semver_sets.specs.RangePrint.{both_text, ends_text, lower_text, set_text, upper_text}
use Rattle.semver_sets.specs.RangeSets.{IsRangeCut, IsRangeSet}
use Rattle.semver_texts.specs.Version.{VersionValue}
use Rattle.semver_sets.specs.Private.WordReading.{is_not_blank}
use Rattle.semver_sets.specs.Lemmas.Merging.{set-one, set-push}
use Rattle.semver_sets.proofs.Words.NoBars.{HasNoBar, none-append}
use Rattle.semver_sets.specs.ReadingBack.{IsPlainlyBounded, IsTextCut, IsUnbounded}
use Rattle.semver_sets.proofs.Prints.WordPrintReading.{IsPrintedWord, operator-word, solid-begins, version-word}

-- ---- one word and two

-- The text is one alternative, the comparators of which merge into a set of the same cuts.
pub record IsReadAlike (text : List ℕ) (set : Ends VersionValue) : Type 0 where
  pub comparators : List Comparator
  pub read : Ends VersionValue
  pub alternative : IsAlternative text comparators
  pub merged : IsSetOf comparators read
  pub holds : HoldsCut version_cmp read
  pub same : AreSameEnds version_cmp read set
  pub no_bar : HasNoBar text
  pub begins : BeginsWith is_not_blank text

itself : (set : Ends VersionValue) → AreSameEnds version_cmp set set
itself set = grind (arith, cut_total version_total)

-- of one word
word-read_alike : (text : List ℕ) (c : Comparator) (set : Ends VersionValue) → IsPrintedWord text [] c
    → IsCutBelow version_cmp c.lower c.upper → AreSameEnds version_cmp c set → IsReadAlike text set
word-read_alike text c set is lt same = record {
  comparators = c ∷ [];
  read = c;
  alternative = record { words = Some c ∷ []; divided = is.word; kept = refl };
  merged = set-one c;
  holds = (holds-below version_total c).1 lt;
  same = same;
  no_bar = is.no_bar;
  begins = is.begins;
}

-- of two words with a blank between, the first of which begins the set and the second of which ends it
two-read : (one other : List ℕ) (lower upper : Cut VersionValue)
    → IsPrintedWord one (codes " " ++ other) (span_between lower End)
    → IsPrintedWord other [] (span_between Start upper) → IsCutBelow version_cmp Start lower
    → IsCutBelow version_cmp upper End → IsCutBelow version_cmp lower upper
    → IsReadAlike (one ++ (codes " " ++ other)) (span_between lower upper)
two-read one other lower upper first second starts ends lt =
    let earlier = span_between lower End in
    let later = span_between Start upper in
    let set = span_between lower upper in
    record {
      comparators = earlier ∷ later ∷ [];
      read = set;
      alternative = record {
        words = Some earlier ∷ Some later ∷ [];
        divided = (
          other,
          record {
            word = one;
            blanks = codes " ";
            whole = refl;
            first = first.word;
            blank = record { some = refl; all = refl };
            blanks_end = solid-begins other second.begins;
          },
          second.word,
        );
        kept = refl;
      };
      merged = set-push (earlier ∷ []) earlier later set (set-one earlier) (inl (starts, refl)) (inl (ends, refl));
      holds = (holds-below version_total set).1 lt;
      same = itself set;
      no_bar = none-append one (codes " " ++ other) first.no_bar (none-append (codes " ") other refl second.no_bar);
      begins = begins-append is_not_blank one (codes " " ++ other) first.begins;
    }

-- ---- the ends of a set

-- a cut at a version that a text can write, or the start, or the end
abbrev IsTextEnd : Cut VersionValue → Type 0
IsTextEnd Start = Unit {0}
IsTextEnd (Before v) = IsTextVersion v
IsTextEnd (After v) = IsTextVersion v
IsTextEnd End = Unit {0}

text-end : (cut : Cut VersionValue) → IsRangeCut cut → IsTextCut cut → IsTextEnd cut
text-end cut h1 h2 = grind arith

-- `>=1.2.3` and `>1.2.3`
at_least-word : (v : VersionValue) (rest : List ℕ) → IsTextVersion v → IsCleanEnd rest
    → IsPrintedWord (lower_text (Before v)) rest (at_least v)
at_least-word v rest is clean = operator-word greater_or_equal v rest (at_least v) is clean refl

above-word : (v : VersionValue) (rest : List ℕ) → IsTextVersion v → IsCleanEnd rest
    → IsPrintedWord (lower_text (After v)) rest (above v)
above-word v rest is clean = operator-word greater v rest (above v) is clean refl

-- `<1.2.3` and `<=1.2.3`
below-word : (v : VersionValue) → IsTextVersion v → IsPrintedWord (upper_text (Before v)) [] (below v)
below-word v is = operator-word less v [] (below v) is tt refl

at_most-word : (v : VersionValue) → IsTextVersion v → IsPrintedWord (upper_text (After v)) [] (at_most v)
at_most-word v is = operator-word less_or_equal v [] (at_most v) is tt refl

-- a version alone, where the two ends are at equal versions
same-print_read : (v w : VersionValue) → IsTextVersion v → version_cmp v w ≡ Equal
    → IsReadAlike (version_text v) (span_between (Before v) (After w))
same-print_read v w is same =
    let own = tied_itself version_total v in
    word-read_alike (version_text v) (exactly v) (span_between (Before v) (After w)) (version-word v is) (rw own refl)
    (record { lower = own; upper = same })

-- from before one version to after another
between-read : (v w : VersionValue) → IsCutBelow version_cmp (Before v) (After w) → IsTextVersion v → IsTextVersion w
    → IsReadAlike (ends_text (Before v) (After w)) (span_between (Before v) (After w))
between-read v w lt a b =
    let set = span_between (Before v) (After w) in
    let both = both_text (Before v) (After w) in
    elim (cases_Bool (eq_by_cmp version_cmp v w)) [
      | inl same ↦
          subst (λ (text : List ℕ). IsReadAlike text set) (sym (cond-true _ (version_text v) both same))
          (same-print_read v w a ((Equal-is (version_cmp v w)).0 same))
      | inr other ↦
          subst (λ (text : List ℕ). IsReadAlike text set) (sym (cond-false _ (version_text v) both other))
          (two-read (lower_text (Before v)) (upper_text (After w)) (Before v) (After w)
          (at_least-word v (codes " " ++ upper_text (After w)) a refl) (at_most-word w b) refl refl lt)
    ]

-- the print of two ends, the first of which is less
set_ends-read : (lower upper : Cut VersionValue) → IsCutBelow version_cmp lower upper
    → ¬ IsUnbounded (span_between lower upper) → IsTextEnd lower → IsTextEnd upper
    → IsReadAlike (ends_text lower upper) (span_between lower upper)
set_ends-read Start Start lt some a b = cc lt
set_ends-read Start (Before w) lt some a b =
    word-read_alike (upper_text (Before w)) (below w) (below w) (below-word w b) refl (itself (below w))
set_ends-read Start (After w) lt some a b =
    word-read_alike (upper_text (After w)) (at_most w) (at_most w) (at_most-word w b) refl (itself (at_most w))
set_ends-read Start End lt some a b = absurd (some (refl, refl))
set_ends-read (Before v) Start lt some a b = cc lt
set_ends-read (Before v) (Before w) lt some a b = grind (
  arith,
  two-read (lower_text (Before v)) (upper_text (Before w))
      (Before v) (Before w) (at_least-word v (codes " " ++ upper_text (Before w)) a refl) (below-word w b) refl refl lt,
)
set_ends-read (Before v) (After w) lt some a b = between-read v w lt a b
set_ends-read (Before v) End lt some a b =
    grind (
      arith,
      word-read_alike (lower_text (Before v)) (at_least v) (at_least v) (at_least-word v [] a tt) refl
          (itself (at_least v)),
    )
set_ends-read (After v) Start lt some a b = cc lt
set_ends-read (After v) (Before w) lt some a b = grind (
  arith,
  two-read (lower_text (After v)) (upper_text (Before w))
      (After v) (Before w) (above-word v (codes " " ++ upper_text (Before w)) a refl) (below-word w b) refl refl lt,
)
set_ends-read (After v) (After w) lt some a b = grind (
  arith,
  two-read (lower_text (After v)) (upper_text (After w))
      (After v) (After w) (above-word v (codes " " ++ upper_text (After w)) a refl) (at_most-word w b) refl refl lt,
)
set_ends-read (After v) End lt some a b =
    word-read_alike (lower_text (After v)) (above v) (above v) (above-word v [] a tt) refl (itself (above v))
set_ends-read End Start lt some a b = cc lt
set_ends-read End (Before w) lt some a b = cc lt
set_ends-read End (After w) lt some a b = cc lt
set_ends-read End End lt some a b = cc lt

-- the print of a set that a range holds and a text can write
pub set-read : (set : Ends VersionValue) → IsRangeSet set → IsPlainlyBounded set → IsReadAlike (set_text set) set
set-read set is plainly =
    let lt = (holds-below version_total set).0 is.holds in
    set_ends-read set.lower set.upper lt plainly.bounded (text-end set.lower is.lower plainly.lower)
    (text-end set.upper is.upper plainly.upper)
