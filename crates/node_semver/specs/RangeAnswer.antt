-- The result of `Range::parse` for a text, by the facts that its contract states.
use Rattle.std.specs.Prelude.{◌≡◌, ◌⊎◌, ◌↔◌, ℕ, List, Result, Ok, Err, IfErr, IfOk, OnOk}
use Rattle.std.specs.List.{AllByRecursion}
use Rattle.semver_cuts.specs.Ends.{Ends}
use Rattle.semver_sets.specs.Meaning.{IsRefused, RangeAdmits, TextAdmits}
use Rattle.semver_sets.specs.Merging.{AreSetsOfText}
use Rattle.semver_sets.specs.RangeEquality.{AreSameCuts}
use Rattle.semver_sets.specs.RangePrint.{range_text}
use Rattle.semver_sets.specs.RangeSets.{IsRangeValue}
use Rattle.semver_texts.specs.Version.{VersionValue}
use Rattle.semver_versions.specs.declared.error.SemverError.{SemverError}
use Rattle.semver_versions.specs.Error.{IsOutOfMemory, IsRefusalAt, no_valid_ranges}
use Rattle.semver_sets.specs.ReadingBack.{IsPlainlyBounded, RangeReadsBack}

-- the result is a range equal to these sets, or the error that an allocation failed
abbrev pub IsReadAsRange : List (Ends VersionValue) → Result (List (Ends VersionValue)) SemverError → Type 0
IsReadAsRange sets (Ok r) = AreSameCuts r sets
IsReadAsRange sets (Err e) = IsOutOfMemory e

-- unless it is out of memory, the text is refused exactly where no alternative has a comparator and a cut common to all
-- its comparators; otherwise a version satisfies the range exactly where the text admits it
pub record IsRangeAnswer (text : List ℕ) (answer : Result (List (Ends VersionValue)) SemverError) : Type 0 where
  pub refused : IfErr answer (λ e. IsOutOfMemory e ⊎ (IsRefusalAt text no_valid_ranges 0 e × IsRefused text))
  pub accepted : OnOk answer (¬ IsRefused text)
  pub means : IfOk answer (λ r. (v : VersionValue) → RangeAdmits r v ↔ TextAdmits text v)
  -- one set for each alternative that gives a set, and the properties of every range
  pub sets : IfOk answer (λ r. AreSetsOfText text r)
  pub holds : IfOk answer IsRangeValue
  -- the print of the range is read as an equal range, and so is each text that is the print of a range
  pub print : IfOk answer RangeReadsBack
  pub printed : (sets : List (Ends VersionValue)) → IsRangeValue sets → AllByRecursion IsPlainlyBounded sets
      → range_text sets ≡ text → IsReadAsRange sets answer
