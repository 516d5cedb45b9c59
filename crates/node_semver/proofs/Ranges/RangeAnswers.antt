-- The result of parsing a range text, from the sets that are read.
use native.Mathlib.Omega.{arith}
use Rattle.std.proofs.Common.{◌≡◌, ◌⊎◌, ◌∙◌, ℕ, List, [], ◌∷◌, Ok, Err, IfOk, ap, subst, sym}
use Rattle.std.specs.List.{AllByRecursion}
use Rattle.std.specs.Prelude.{IfErr, Result}
use Rattle.semver_cuts.specs.Ends.{Ends}
use Rattle.semver_versions.specs.Error.{IsOutOfMemory, IsRefusalAt, no_valid_ranges}
use Rattle.semver_texts.specs.Version.{VersionValue}
use Rattle.semver_versions.specs.declared.error.SemverError.{SemverError}
use Rattle.semver_sets.specs.FullTexts.{IsFullText, full_set}
use Rattle.semver_sets.specs.Meaning.{IsRefused}
use Rattle.semver_sets.specs.Merging.{AreSetsOfText}
use Rattle.semver_sets.specs.RangeLaws.{MeansItsSets}
use Rattle.semver_sets.specs.RangePrint.{range_text}
use Rattle.semver_sets.specs.RangeSets.{IsRangeValue}
use Rattle.semver_sets.specs.ReadingBack.{IsPlainlyBounded, RangeReadsBack}
use Rattle.semver_sets.specs.declared.read.full.Form.{Form}
use Rattle.node_semver.specs.RangeAnswer.{IsRangeAnswer, IsReadAsRange}

-- what the laws of texts and of prints say
abbrev pub TextsMeanTheirSets : Type 0
TextsMeanTheirSets = (text : List ℕ) (sets : List (Ends VersionValue)) → AreSetsOfText text sets
    → MeansItsSets text sets

abbrev pub PrintsAreReadBack : Type 0
PrintsAreReadBack = (sets : List (Ends VersionValue)) → IsRangeValue sets → RangeReadsBack sets

-- the text is not refused, or memory is
abbrev pub IsRefusal : List ℕ → SemverError → Type 0
IsRefusal text e = IsOutOfMemory e ⊎ (IsRefusalAt text no_valid_ranges 0 e × IsRefused text)

-- a text that is the print of a range is read as an equal one
print-read : PrintsAreReadBack → (text : List ℕ) (answer : Result (List (Ends VersionValue)) SemverError)
    → IfErr answer (IsRefusal text) → IfOk answer (AreSetsOfText text) → (sets : List (Ends VersionValue))
    → IsRangeValue sets → AllByRecursion IsPlainlyBounded sets → range_text sets ≡ text → IsReadAsRange sets answer
print-read h1 text answer h2 h3 sets h4 h5 h6 = grind arith

-- each fact that is promised of sets that are read
pub range-read : TextsMeanTheirSets → PrintsAreReadBack → (text : List ℕ) (sets : List (Ends VersionValue))
    → AreSetsOfText text sets → IsRangeValue sets → IsRangeAnswer text (Ok sets)
range-read mean back text sets are holds =
    let law = mean text sets are in
    record {
      refused = tt;
      accepted = λ refused. holds.some (law.refused.0 refused);
      means = law.admits;
      sets = are;
      holds = holds;
      print = back sets holds;
      printed = print-read back text (Ok sets) tt are;
    }

-- and of the one set of a full version after `^`, `~` or nothing
pub full-read : TextsMeanTheirSets → PrintsAreReadBack → (text bytes : List ℕ) (form : Form)
    (major minor patch : ℕ) (set : Ends VersionValue) (sets : List (Ends VersionValue)) → bytes ≡ text
    → IsFullText bytes form major minor patch → set ≡ full_set form major minor patch → sets ≡ set ∷ []
    → IsRangeAnswer text (Ok sets)
full-read mean back text bytes form major minor patch set sets same full is alone =
    let here : sets ≡ full_set form major minor patch ∷ [] = alone ∙ ap (λ (s : Ends VersionValue). s ∷ []) is in
    let are = subst (λ (t : List ℕ). AreSetsOfText t sets) same (subst (AreSetsOfText bytes) (sym here) full.sets) in
    range-read mean back text sets are ((mean text sets are).holds (λ none. cc (none, here)))

-- and of an error
pub range-refused : PrintsAreReadBack → (text : List ℕ) (e : SemverError) → IsRefusal text e → IsRangeAnswer text
    (Err e)
range-refused back text e refusal = grind (arith, print-read)
