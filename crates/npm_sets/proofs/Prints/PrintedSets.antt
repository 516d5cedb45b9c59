-- The print of a set is one word, or two with a space between them, whose comparators merge into a set of the same cuts.
use Rattle.std.proofs.Common.{◌≡◌, ◌∙◌, ℕ, Bool, List, [], ◌∷◌, ◌++◌, Some, Ok, Equal, ap, codes, refl, sym, subst, inl}
use Rattle.std.proofs.Common.{inr}
use Rattle.std.proofs.lemmas.Bool.{cases_Bool, cond-false, cond-true}
use Rattle.std.specs.Cmp.{Equal-is, tied_itself}
use Rattle.std.specs.Ordering.{eq_by_cmp}
use Rattle.std.specs.Prelude.{Result}
use Rattle.semver_cuts.specs.declared.cut.Cut.{Cut}
use Rattle.semver_cuts.specs.declared.cut.Cut.TheVariants.{Start, Before, After, End}
use Rattle.semver_cuts.specs.Ends.{AreSameEnds, Ends, HoldsCut, IsCutBelow, span_between}
use Rattle.semver_cuts.specs.Cut.{cut_cmp}
use Rattle.semver_cuts.specs.Lemmas.TwoSpans.{holds-below}
use Rattle.semver_texts.specs.Characters.{AreAll}
use Rattle.semver_texts.specs.Comparison.{version_cmp}
use Rattle.semver_texts.specs.Lemmas.Public.{IsTextVersion, version_total}
use Rattle.semver_texts.specs.Print.{version_text}
use Rattle.semver_texts.specs.Version.{VersionValue, without_build}
use Rattle.semver_texts.specs.declared.parse.fault.Fault.{Fault}
use Rattle.semver_sets.specs.Comparator.{Comparator, above, at_least, at_most, below, exactly}
use Rattle.semver_sets.specs.Lemmas.Merging.{set-one, set-push}
use Rattle.semver_sets.specs.Merging.{IsSetOf, all_cuts}
use Rattle.semver_sets.specs.RangePrint.{both_text, ends_text, lower_text, set_text, upper_text}
use Rattle.semver_sets.specs.RangeSets.{IsRangeCut, IsRangeSet}
use Rattle.npm_sets.specs.NpmMeaning.{chunks_comparators, comparators_of, piece_comparators, with_word}
use Rattle.npm_sets.specs.NpmReadingBack.{HasNpmPrint, IsNpmPrintCut, IsNpmPrintSet}
use Rattle.npm_sets.specs.WordTexts.{chunks_of, lead_of, words_from, words_of}
use Rattle.npm_sets.specs.declared.options.NpmOptions.{NpmOptions}
use Rattle.npm_sets.specs.declared.words.Ending.{Ending}
use Rattle.npm_sets.specs.declared.words.Lead.TheVariants.{Above, AtLeast, AtMost, Below, Nothing}
use Rattle.npm_sets.proofs.Chunks.Borders.{chunks-split, chunks-whole}
use Rattle.npm_sets.proofs.Chunks.ChunkLemmas.{chunks-space}
use Rattle.npm_sets.proofs.Chunks.Joins.{from-closed, words-end, words-first}
use Rattle.npm_sets.proofs.Chunks.SideLemmas.{and_more}
use Rattle.npm_sets.proofs.Pieces.WordReading.{comparators-end, comparators-step}
use Rattle.npm_sets.proofs.Prints.PrintedTexts.{all-both, all-set, all-solid, is_set_character}
use Rattle.npm_sets.proofs.Prints.PrintedWords.{IsPrintedWord, printed-word, star-word}

-- The text is one piece, the comparators of which merge into a set of the same cuts.
pub record IsReadSet (options : NpmOptions) (text : List ℕ) (set : Ends VersionValue) : Type 0 where
  pub first : Comparator
  pub others : List Comparator
  pub read : Ends VersionValue
  pub gives : piece_comparators options text ≡ Some (first ∷ others)
  pub merged : IsSetOf (first ∷ others) read
  pub holds : HoldsCut version_cmp read
  pub same : AreSameEnds version_cmp read set
  pub characters : AreAll is_set_character text

-- ---- chunks and words

some-more : (text : List ℕ) → ¬ (text ≡ []) → and_more text [] ≡ text ∷ []
some-more [] some = absurd (some refl)
some-more (b ∷ text) some = refl

module _ (options : NpmOptions) where
  one-chunk : (text : List ℕ) (c : Comparator) → IsPrintedWord options text c → chunks_of text ≡ text ∷ []
  one-chunk text c is = chunks-whole text (all-solid text is.characters) ∙ some-more text is.some

  two-chunks : (one other : List ℕ) (c d : Comparator) → IsPrintedWord options one c → IsPrintedWord options other d
      → chunks_of (one ++ (32 ∷ other)) ≡ one ∷ other ∷ []
  two-chunks one other c d first second =
      chunks-split one (32 ∷ other) (inr refl)
      ∙ ap (λ (l : List (List ℕ)). l ++ chunks_of (32 ∷ other)) (one-chunk one c first)
      ∙ ap (λ (l : List (List ℕ)). one ∷ l) (chunks-space 32 other refl ∙ one-chunk other d second)

  first-word : (text : List ℕ) (chunks : List (List ℕ)) (c : Comparator) → IsPrintedWord options text c
      → words_of (text ∷ chunks) ≡ lead_of text ∷ words_of chunks
  first-word text chunks c is =
      words-first text chunks
      ∙ ap (λ (e : Ending). words_from (lead_of text) e chunks) is.ends
      ∙ from-closed (lead_of text) chunks

  first-comparator : (text : List ℕ) (chunks : List (List ℕ)) (c : Comparator) (others : List Comparator)
      → IsPrintedWord options text c → comparators_of options (words_of chunks) ≡ Some others
      → comparators_of options (words_of (text ∷ chunks)) ≡ Some (c ∷ others)
  first-comparator text chunks c others is later =
      ap (comparators_of options) (first-word text chunks c is)
      ∙ comparators-step options (lead_of text) (words_of chunks)
      ∙ ap (λ (r : Result Comparator Fault).
      with_word options.loose r (comparators_of options (words_of chunks))) is.gives
      ∙ ap (with_word options.loose (Ok c)) later

  no-comparators : comparators_of options (words_of []) ≡ Some []
  no-comparators = ap (comparators_of options) words-end ∙ comparators-end options

  -- ---- one word and two

  one-read : (text : List ℕ) (c : Comparator) (set : Ends VersionValue) → IsPrintedWord options text c
      → IsCutBelow version_cmp c.lower c.upper → AreSameEnds version_cmp c set → IsReadSet options text set
  one-read text c set is lt same = record {
    first = c;
    others = [];
    read = c;
    gives =
        ap (chunks_comparators options) (one-chunk text c is) ∙ first-comparator text [] c [] is no-comparators;
    merged = set-one c;
    holds = (holds-below version_total c).1 lt;
    same = same;
    characters = all-set text is.characters;
  }

  -- two words, the first of which begins the set and the second of which ends it
  two-read : (one other : List ℕ) (lower upper : Cut VersionValue) (set : Ends VersionValue)
      → IsPrintedWord options one (span_between lower End) → IsPrintedWord options other (span_between Start upper)
      → IsCutBelow version_cmp Start lower → IsCutBelow version_cmp upper End → IsCutBelow version_cmp lower upper
      → AreSameEnds version_cmp (span_between lower upper) set → IsReadSet options (one ++ (32 ∷ other)) set
  two-read one other lower upper set first second starts ends lt same =
      let earlier = span_between lower End in
      let later = span_between Start upper in
      record {
        first = earlier;
        others = later ∷ [];
        read = span_between lower upper;
        gives =
            ap (chunks_comparators options) (two-chunks one other earlier later first second)
            ∙ first-comparator one (other ∷ []) earlier (later ∷ []) first
            (first-comparator other [] later [] second no-comparators);
        merged =
            set-push (earlier ∷ []) earlier later (span_between lower upper) (set-one earlier) (inl (starts, refl))
            (inl (ends, refl));
        holds = (holds-below version_total (span_between lower upper)).1 lt;
        same = same;
        characters =
            all-both is_set_character one (32 ∷ other) (all-set one first.characters)
            (all-set other second.characters);
      }

-- ---- the ends of a set

-- a cut at a version that a text can write and npm's reading reads
abbrev pub IsPrintEnd : Bool → Cut VersionValue → Type 0
IsPrintEnd loose Start = Unit {0}
IsPrintEnd loose (Before v) = IsTextVersion v × HasNpmPrint loose v
IsPrintEnd loose (After v) = IsTextVersion v × HasNpmPrint loose v
IsPrintEnd loose End = Unit {0}

print-end : (loose : Bool) (cut : Cut VersionValue) → IsRangeCut cut → IsNpmPrintCut loose cut → IsPrintEnd loose cut
print-end loose Start is print = tt
print-end loose (Before v) is print =
    (record { numbers = print.numbers; pre_release = is.pre_release; build = is.build }, print)
print-end loose (After v) is print =
    (record { numbers = print.numbers; pre_release = is.pre_release; build = is.build }, print)
print-end loose End is print = tt

-- the cut that is read: without a build
abbrev pub bare : Cut VersionValue → Cut VersionValue
bare Start = Start
bare (Before v) = Before (without_build v)
bare (After v) = After (without_build v)
bare End = End

bare-same : (cut : Cut VersionValue) → cut_cmp version_cmp (bare cut) cut ≡ Equal
bare-same Start = refl
bare-same (Before v) = tied_itself version_total v
bare-same (After v) = tied_itself version_total v
bare-same End = refl

same-ends : (lower upper : Cut VersionValue)
    → AreSameEnds version_cmp (span_between (bare lower) (bare upper)) (span_between lower upper)
same-ends lower upper = record { lower = bare-same lower; upper = bare-same upper }

module _ (options : NpmOptions) where
  lower-before : (v : VersionValue) → IsPrintEnd options.loose (Before v)
      → IsPrintedWord options (lower_text (Before v)) (at_least (without_build v))
  lower-before v is = printed-word options AtLeast v tt is.0 is.1

  lower-after : (v : VersionValue) → IsPrintEnd options.loose (After v)
      → IsPrintedWord options (lower_text (After v)) (above (without_build v))
  lower-after v is = printed-word options Above v tt is.0 is.1

  upper-before : (v : VersionValue) → IsPrintEnd options.loose (Before v)
      → IsPrintedWord options (upper_text (Before v)) (below (without_build v))
  upper-before v is = printed-word options Below v tt is.0 is.1

  upper-after : (v : VersionValue) → IsPrintEnd options.loose (After v)
      → IsPrintedWord options (upper_text (After v)) (at_most (without_build v))
  upper-after v is = printed-word options AtMost v tt is.0 is.1

  -- a version alone, if the two ends are at equal versions
  alone-read : (v w : VersionValue) → IsPrintEnd options.loose (Before v) → version_cmp v w ≡ Equal
      → IsReadSet options (version_text v) (span_between (Before v) (After w))
  alone-read v w is same =
      let own = tied_itself version_total v in
      one-read options (version_text v) (exactly (without_build v)) (span_between (Before v) (After w))
      (printed-word options Nothing v tt is.0 is.1) (rw own refl) (record { lower = own; upper = same })

  -- from before one version to after another
  between-read : (v w : VersionValue) → IsCutBelow version_cmp (Before v) (After w)
      → IsPrintEnd options.loose (Before v) → IsPrintEnd options.loose (After w)
      → IsReadSet options (ends_text (Before v) (After w)) (span_between (Before v) (After w))
  between-read v w lt a b =
      let set = span_between (Before v) (After w) in
      let both = both_text (Before v) (After w) in
      elim (cases_Bool (eq_by_cmp version_cmp v w)) [
        | inl same ↦
            subst (λ (text : List ℕ). IsReadSet options text set) (sym (cond-true _ (version_text v) both same))
            (alone-read v w a ((Equal-is (version_cmp v w)).0 same))
        | inr other ↦
            subst (λ (text : List ℕ). IsReadSet options text set) (sym (cond-false _ (version_text v) both other))
            (two-read options (lower_text (Before v)) (upper_text (After w)) (bare (Before v)) (bare (After w)) set
            (lower-before v a) (upper-after w b) refl refl lt (same-ends (Before v) (After w)))
      ]

  -- the print of two ends, the first of which is less
  ends-read : (lower upper : Cut VersionValue) → IsCutBelow version_cmp lower upper
      → IsPrintEnd options.loose lower → IsPrintEnd options.loose upper
      → IsReadSet options (ends_text lower upper) (span_between lower upper)
  ends-read Start Start lt a b = cc lt
  ends-read Start (Before w) lt a b =
      one-read options (upper_text (Before w)) (below (without_build w)) (span_between Start (Before w))
      (upper-before w b) refl (same-ends Start (Before w))
  ends-read Start (After w) lt a b =
      one-read options (upper_text (After w)) (at_most (without_build w)) (span_between Start (After w))
      (upper-after w b) refl (same-ends Start (After w))
  ends-read Start End lt a b =
      one-read options (codes "*") all_cuts (span_between Start End) (star-word options) refl (same-ends Start End)
  ends-read (Before v) Start lt a b = cc lt
  ends-read (Before v) (Before w) lt a b =
      two-read options (lower_text (Before v)) (upper_text (Before w)) (bare (Before v)) (bare (Before w))
      (span_between (Before v) (Before w)) (lower-before v a) (upper-before w b) refl refl lt
      (same-ends (Before v) (Before w))
  ends-read (Before v) (After w) lt a b = between-read v w lt a b
  ends-read (Before v) End lt a b =
      one-read options (lower_text (Before v)) (at_least (without_build v)) (span_between (Before v) End)
      (lower-before v a) refl (same-ends (Before v) End)
  ends-read (After v) Start lt a b = cc lt
  ends-read (After v) (Before w) lt a b =
      two-read options (lower_text (After v)) (upper_text (Before w)) (bare (After v)) (bare (Before w))
      (span_between (After v) (Before w)) (lower-after v a) (upper-before w b) refl refl lt
      (same-ends (After v) (Before w))
  ends-read (After v) (After w) lt a b =
      two-read options (lower_text (After v)) (upper_text (After w)) (bare (After v)) (bare (After w))
      (span_between (After v) (After w)) (lower-after v a) (upper-after w b) refl refl lt
      (same-ends (After v) (After w))
  ends-read (After v) End lt a b =
      one-read options (lower_text (After v)) (above (without_build v)) (span_between (After v) End)
      (lower-after v a) refl (same-ends (After v) End)
  ends-read End Start lt a b = cc lt
  ends-read End (Before w) lt a b = cc lt
  ends-read End (After w) lt a b = cc lt
  ends-read End End lt a b = cc lt

  -- the print of a set of a range
  pub set-read : (set : Ends VersionValue) → IsRangeSet set → IsNpmPrintSet options.loose set
      → IsReadSet options (set_text set) set
  set-read set is print =
      ends-read set.lower set.upper ((holds-below version_total set).0 is.holds)
      (print-end options.loose set.lower is.lower print.lower)
      (print-end options.loose set.upper is.upper print.upper)
