-- The print of a range is divided at `||` into the prints of its sets, and so read as an equal range.
use native.Mathlib.Omega.{arith}
use Rattle.std.proofs.Common.{◌≡◌, ◌≢◌, ◌∙◌, ℕ, List, [], ◌∷◌, ◌++◌, Some, ap, inl, inr, map, refl, subst, sym}
use Rattle.std.proofs.lemmas.Bool.{and_parts}
use Rattle.std.specs.List.{AllByRecursion, list_all}
use Rattle.semver_cuts.specs.Ends.{Ends}
use Rattle.semver_texts.specs.Characters.{AreAll, bar}
use Rattle.semver_texts.specs.Version.{VersionValue}
use Rattle.semver_sets.specs.Comparator.{Comparator}
use Rattle.semver_sets.specs.Division.{EndsInBar, HasBars}
use Rattle.semver_sets.specs.Lemmas.Merging.{merged-gives, set-unique}
use Rattle.semver_sets.specs.Merging.{AreSetsOf, no_more, none, one_more}
use Rattle.semver_sets.specs.RangeEquality.{AreSameCuts}
use Rattle.semver_sets.specs.RangePrint.{range_text, set_text}
use Rattle.semver_sets.specs.RangeSets.{IsRangeSet, IsRangeValue}
use Rattle.npm_sets.specs.NpmMeaning.{AreNpmSets, alternatives_of, or_no_alternatives, pieces_alternatives, with_piece}
use Rattle.npm_sets.specs.NpmReadingBack.{IsNpmPrintSet, IsNpmReadAsEqual, NpmReadsBack}
use Rattle.npm_sets.specs.Spaces.{with_plain_spaces}
use Rattle.npm_sets.specs.WordTexts.{pieces_of}
use Rattle.npm_sets.specs.declared.options.NpmOptions.{NpmOptions}
use Rattle.npm_sets.proofs.Pieces.PieceDivision.{first-piece, only-piece}
use Rattle.npm_sets.proofs.Pieces.TextReading.{pieces-end, pieces-more}
use Rattle.npm_sets.proofs.PlainSpaces.{ascii-plain}
use Rattle.npm_sets.proofs.Prints.PrintedSets.{IsReadSet, set-read}
use Rattle.npm_sets.proofs.Prints.PrintedTexts.{all-ascii, all-both, all-no_bar, in-ascii, is_ascii, is_no_bar}

-- ---- texts without a bar

bar-here : (before after : List ℕ) → AreAll is_no_bar (before ++ (bar ∷ after)) → ⊥
bar-here [] after all = cc (and_parts (is_no_bar bar) (list_all is_no_bar after) all).0
bar-here (b ∷ before) after all = bar-here before after (and_parts (is_no_bar b) _ all).1

no-bars : (text : List ℕ) → AreAll is_no_bar text → ¬ HasBars text
no-bars text all has =
    bar-here has.0 (bar ∷ has.1) (subst (AreAll is_no_bar) has.2 all)

no-end : (text : List ℕ) → AreAll is_no_bar text → ¬ EndsInBar text
no-end text all has = bar-here has.0 [] (subst (AreAll is_no_bar) has.1 all)

-- ---- one list of sets

-- alternatives have no two lists of sets
one-list : (alternatives : List (List Comparator)) (sets others : List (Ends VersionValue))
    → AreSetsOf alternatives sets → AreSetsOf alternatives others → sets ≡ others
one-list [] [] [] none none = refl
one-list [] [] (t ∷ others) m n = elim n [ ]
one-list [] (s ∷ sets) others m n = elim m [ ]
one-list (c ∷ alternatives) (s ∷ sets) (t ∷ others) (one_more _ _ _ _ g i more) (one_more _ _ _ _ h j next) =
    grind (arith, set-unique c s t i j, one-list alternatives sets others more next)
one-list (c ∷ alternatives) (s ∷ sets) others (one_more _ _ _ _ g i more) (no_more _ _ _ n next) = absurd (n g)
one-list (c ∷ alternatives) sets (t ∷ others) (no_more _ _ _ n more) (one_more _ _ _ _ h j next) = absurd (n h)
one-list (c ∷ alternatives) sets others (no_more _ _ _ n more) (no_more _ _ _ m next) =
    one-list alternatives sets others more next

-- ---- the pieces of a print

module _ (options : NpmOptions) where
  abbrev IsRead : Ends VersionValue → Type 0
  IsRead set = IsReadSet options (set_text set) set

  sets-read : (sets : List (Ends VersionValue)) → AllByRecursion IsRangeSet sets
      → AllByRecursion (IsNpmPrintSet options.loose) sets → AllByRecursion IsRead sets
  sets-read [] is print = tt
  sets-read (set ∷ sets) is print = (set-read options set is.0 print.0, sets-read sets is.1 print.1)

  set-no_bar : (set : Ends VersionValue) → IsRead set → AreAll is_no_bar (set_text set)
  set-no_bar set read = all-no_bar (set_text set) read.characters

  pieces-printed : (set : Ends VersionValue) (sets : List (Ends VersionValue)) → AllByRecursion IsRead (set ∷ sets)
      → pieces_of (range_text (set ∷ sets)) ≡ map set_text (set ∷ sets)
  pieces-printed set [] read = only-piece (set_text set) (no-bars (set_text set) (set-no_bar set read.0))
  pieces-printed set (next ∷ sets) read =
      first-piece (set_text set) (range_text (next ∷ sets)) (no-bars (set_text set) (set-no_bar set read.0))
      (no-end (set_text set) (set-no_bar set read.0))
      ∙ ap (λ (l : List (List ℕ)). set_text set ∷ l) (pieces-printed next sets read.1)

  print-ascii : (set : Ends VersionValue) (sets : List (Ends VersionValue)) → AllByRecursion IsRead (set ∷ sets)
      → AreAll is_ascii (range_text (set ∷ sets))
  print-ascii set [] read = all-ascii (set_text set) read.0.characters
  print-ascii set (next ∷ sets) read =
      all-both is_ascii (set_text set) (bar ∷ bar ∷ range_text (next ∷ sets))
      (all-ascii (set_text set) read.0.characters) (print-ascii next sets read.1)

  -- ---- the alternatives of a print, and their sets

  record AreReadSets (sets : List (Ends VersionValue)) : Type 0 where
    pub alternatives : List (List Comparator)
    pub read : List (Ends VersionValue)
    pub gives : pieces_alternatives options (map set_text sets) ≡ Some alternatives
    pub merged : AreSetsOf alternatives read
    pub same : AreSameCuts read sets

  all-read : (sets : List (Ends VersionValue)) → AllByRecursion IsRead sets → AreReadSets sets
  all-read [] read = record { alternatives = []; read = []; gives = pieces-end options; merged = none; same = tt }
  all-read (set ∷ sets) read =
      let more = all-read sets read.1 in
      let first = read.0 in
      let comparators = first.first ∷ first.others in
      let gives = (merged-gives comparators first.read first.merged).1 first.holds in
      record {
        alternatives = comparators ∷ more.alternatives;
        read = first.read ∷ more.read;
        gives =
            pieces-more options (set_text set) (map set_text sets)
            ∙ ap (λ r. with_piece r (pieces_alternatives options (map set_text sets))) first.gives
            ∙ ap (with_piece (Some comparators)) more.gives;
        merged = one_more comparators more.alternatives first.read more.read gives first.merged more.merged;
        same = (first.same, more.same);
      }

  -- ---- the whole print

  equal-read : (text : List ℕ) (sets read : List (Ends VersionValue)) → AreSetsOf (alternatives_of options text) read
      → read ≢ [] → AreSameCuts read sets → with_plain_spaces text ≡ text → IsNpmReadAsEqual options text sets
  equal-read text sets read are some same plain = record {
    accepted = λ refused. some (one-list [] read [] (subst (λ (l : List (List Comparator)). AreSetsOf l read)
        (sym (ap (alternatives_of options) plain) ∙ refused) are) none);
    equal = λ others h. equal others (subst (λ (l : List ℕ). AreNpmSets options l others) plain h);
  }
    where
      equal : (others : List (Ends VersionValue)) → AreNpmSets options text others → AreSameCuts others sets
      equal others (inl is) =
          subst (λ (l : List (Ends VersionValue)). AreSameCuts l sets)
          (one-list (alternatives_of options text) read others are is.0) same
      equal others (inr is) = absurd (some (one-list (alternatives_of options text) read [] are is.0))

  range-read : (sets : List (Ends VersionValue)) → sets ≢ [] → AllByRecursion IsRead sets
      → IsNpmReadAsEqual options (range_text sets) sets
  range-read [] some read = absurd (some refl)
  range-read (set ∷ sets) some read =
      let text = range_text (set ∷ sets) in
      let all = all-read (set ∷ sets) read in
      let alternatives : alternatives_of options text ≡ all.alternatives =
      ap (λ l. or_no_alternatives (pieces_alternatives options l)) (pieces-printed set sets read)
      ∙ ap or_no_alternatives all.gives in
      let plain = ascii-plain text (in-ascii text (print-ascii set sets read)) in
      equal-read text (set ∷ sets) all.read
      (subst (λ (l : List (List Comparator)). AreSetsOf l all.read) (sym alternatives) all.merged)
      (λ empty. subst (λ (l : List (Ends VersionValue)). AreSameCuts l (set ∷ sets)) empty all.same) all.same plain

  pub reads-back : (sets : List (Ends VersionValue)) → IsRangeValue sets → NpmReadsBack options sets
  reads-back sets is print = range-read sets is.some (sets-read sets is.each print)
