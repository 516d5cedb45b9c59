-- The meaning of a full text: its only comparator is its set.
use Rattle.std.proofs.Common.{◌≡◌, ◌∙◌, ◌≤◌, ℕ, Bool, false, List, [], ◌∷◌, ◌++◌, Some}
use Rattle.std.proofs.Common.{Ok, ap, arith, length, length-append, refl, sym, subst}
use Rattle.std.proofs.lemmas.Option.{same_Some}
use Rattle.std.specs.Prelude.{IsAscii}
use Rattle.semver_texts.specs.Characters.{dot}
use Rattle.semver_texts.specs.IdentifierValue.{IdentifierValue}
use Rattle.semver_texts.specs.Lemmas.Public.{clean_extras}
use Rattle.semver_texts.specs.Reading.{read_extras}
use Rattle.semver_texts.specs.Version.{release, without_build}
use Rattle.semver_texts.specs.declared.TheConstants.{MAX_LENGTH}
use Rattle.semver_sets.specs.Comparator.{Comparator}
use Rattle.semver_sets.specs.FullTexts.{AreInLimit, full_row, full_set}
use Rattle.semver_sets.specs.Lemmas.Comparators.{full-set}
use Rattle.semver_sets.specs.declared.read.full.Form.{Form}
use Rattle.semver_sets.specs.Lemmas.Merging.{set-one}
use Rattle.semver_sets.specs.Meaning.{GiveSet}
use Rattle.semver_sets.specs.Merging.{AreSetsOf, none, one_more}
use Rattle.semver_sets.specs.PartialText.{zeroed}
use Rattle.semver_sets.specs.RangeSets.{IsRangeSet}
use Rattle.semver_sets.specs.declared.read.full.FullLead.{FullLead}
use Rattle.npm_sets.specs.FullTexts.{IsNpmFullText}
use Rattle.npm_sets.specs.NpmMeaning.{alternatives_of, chunks_comparators, comparators_of, or_no_alternatives}
use Rattle.npm_sets.specs.NpmMeaning.{piece_comparators, pieces_alternatives, word_comparator}
use Rattle.npm_sets.specs.PartialTexts.{with_extras}
use Rattle.npm_sets.specs.Private.ReadViews.{IsNumberBefore, full_mark}
use Rattle.npm_sets.specs.Rows.{lead_comparator, lead_row}
use Rattle.npm_sets.specs.WordTexts.{Word}
use Rattle.npm_sets.specs.declared.options.NpmOptions.{NpmOptions}
use Rattle.npm_sets.proofs.Full.FullDivision.{full-ascii, full-piece, full-word, lead_named, mark-chunk, mark-full}
use Rattle.npm_sets.proofs.Full.FullDivision.{operand-full, operand-numbers}
use Rattle.npm_sets.proofs.Full.FullPartial.{full-partial, number-begins}
use Rattle.npm_sets.proofs.PlainSpaces.{ascii-plain}
use Rattle.npm_sets.proofs.Pieces.SetMeaning.{npm-sets-admit}
use Rattle.npm_sets.proofs.Pieces.TextReading.{pieces-end, pieces-more}
use Rattle.npm_sets.proofs.Pieces.WordReading.{comparators-end, comparators-step, word-read}

-- ---- the set

-- without prereleases, npm's row of a full version gives the same set
full-row : (lead : FullLead) (major minor patch : ℕ)
    → full_row lead major minor patch
    ≡ Some (lead_row false (lead_named lead) (Some major) (Some minor) (Some patch) (release major minor patch))
full-row lead major minor patch = grind arith

no-prerelease : (read_extras []).0.0 ≡ []
no-prerelease = ap (λ (e : (List IdentifierValue × List IdentifierValue) × List ℕ). e.0.0) (clean_extras [] refl)

-- without extras it is a release
full-release : (major minor patch : ℕ)
    → release major minor patch ≡ without_build (zeroed (with_extras (Some major) (Some minor) (Some patch) []))
full-release major minor patch = grind (arith, no-prerelease)

-- the comparator of three numbers
full-comparator : (pre : Bool) (lead : FullLead) (form : Form) (major minor patch : ℕ) → pre ≡ false
    → full_row lead major minor patch ≡ Some (full_set form major minor patch)
    → full_set form major minor patch
    ≡ lead_comparator pre (lead_named lead) (with_extras (Some major) (Some minor) (Some patch) [])
full-comparator pre lead form major minor patch out gives =
    grind (arith, same_Some, full-row lead major minor patch, lead_named lead, full-release major minor patch)

-- ---- a comparator alone

one-set : (c : Comparator) → IsRangeSet c → AreSetsOf ((c ∷ []) ∷ []) (c ∷ [])
one-set c is =
    let gives : GiveSet (c ∷ []) = record { some = λ e. cc e; common = (is.holds.0, (is.holds.1, tt)) } in
    one_more (c ∷ []) [] c [] gives (set-one c) none

-- a text with one comparator has its set
one-meaning : (options : NpmOptions) (text : List ℕ) (form : Form) (major minor patch : ℕ)
    → alternatives_of options text ≡ (full_set form major minor patch ∷ []) ∷ []
    → AreInLimit major minor patch → IsAscii text
    → IsNpmFullText options text form major minor patch
one-meaning options text form major minor patch h1 h2 h3 =
    grind (arith, full-set, one-set, npm-sets-admit, ascii-plain)

-- ---- the text

one-word : (options : NpmOptions) (word : Word) (c : Comparator) → word_comparator options word ≡ Ok c
    → comparators_of options (word ∷ []) ≡ Some (c ∷ [])
one-word options word c is = grind (arith, comparators-step options word, comparators-end options)

one-piece : (options : NpmOptions) (piece : List ℕ) (c : Comparator) → piece_comparators options piece ≡ Some (c ∷ [])
    → pieces_alternatives options (piece ∷ []) ≡ Some ((c ∷ []) ∷ [])
one-piece options piece c is = grind (arith, pieces-more options piece, pieces-end options)

-- a mark and three numbers
module _ (options : NpmOptions) (text operand second third : List ℕ) (lead : FullLead) (form : Form)
    (major minor patch : ℕ)
    (marked : text ≡ full_mark lead ++ operand) (short : length text ≤ MAX_LENGTH)
    (one : IsNumberBefore options.loose operand major (dot ∷ second))
    (two : IsNumberBefore options.loose second minor (dot ∷ third))
    (three : IsNumberBefore options.loose third patch [])
    (gives : full_row lead major minor patch ≡ Some (full_set form major minor patch)) where
  operand-short : length operand ≤ MAX_LENGTH
  operand-short = omega (arith, short, ap length marked, length-append (full_mark lead) operand)

  full-comparators : options.include_prerelease ≡ false
      → piece_comparators options (full_mark lead ++ operand) ≡ Some (full_set form major minor patch ∷ [])
  full-comparators out =
      let digit = number-begins options.loose operand (dot ∷ second) major one in
      let numbers = operand-numbers options.loose operand second third major minor patch one two three in
      let all = operand-full options.loose operand second third major minor patch one two three in
      let partial = with_extras (Some major) (Some minor) (Some patch) [] in
      ap (chunks_comparators options) (mark-chunk lead operand digit all)
      ∙ ap (comparators_of options) (full-word lead operand digit numbers)
      ∙ one-word options (lead_named lead, operand) (full_set form major minor patch)
      (word-read options (lead_named lead) operand partial (full_set form major minor patch)
      (full-partial options.loose operand second third major minor patch one two three operand-short)
      (full-comparator options.include_prerelease lead form major minor patch out gives))

  full-alternatives : options.include_prerelease ≡ false
      → alternatives_of options text ≡ (full_set form major minor patch ∷ []) ∷ []
  full-alternatives out =
      let all = operand-full options.loose operand second third major minor patch one two three in
      ap (alternatives_of options) marked
      ∙ ap (λ (l : List (List ℕ)). or_no_alternatives (pieces_alternatives options l))
      (full-piece (full_mark lead ++ operand) (mark-full lead operand all))
      ∙ ap or_no_alternatives
      (one-piece options (full_mark lead ++ operand) (full_set form major minor patch) (full-comparators out))

  pub full-text : options.include_prerelease ≡ false → AreInLimit major minor patch
      → IsNpmFullText options text form major minor patch
  full-text out limit =
      let all = operand-full options.loose operand second third major minor patch one two three in
      one-meaning options text form major minor patch (full-alternatives out) limit
      (subst IsAscii (sym marked) (full-ascii (full_mark lead ++ operand) (mark-full lead operand all)))
