-- The result of one call with a range text and a version text.
use Rattle.std.specs.Prelude.{◌≡◌, ◌⊎◌, ◌↔◌, ℕ, List, Bool, IsTrue}
use Rattle.node_semver_c.specs.declared.status.Fault.{Fault}
use Rattle.node_semver_c.specs.declared.status.TheConstants.{OK, REFUSED}
use Rattle.node_semver_c.specs.Status.{IsFaultReported, IsRefusalReported}
use Rattle.semver_cuts.specs.Ends.{Ends}
use Rattle.semver_sets.specs.Meaning.{IsRefused, RangeAdmits, TextAdmits}
use Rattle.semver_texts.specs.Version.{VersionValue}
use Rattle.npm_semver.specs.StrictVersionText.{IsStrictVersionText}
use Rattle.semver_texts.specs.VersionText.{IsVersionText}
use Rattle.semver_versions.specs.declared.error.SemverError.{SemverError}
use Rattle.semver_versions.specs.Error.{IsOutOfMemory, IsRefusalAt, Kind, no_valid_ranges, refusal_of}
use Rattle.semver_versions.specs.Fault.{IsFault}

-- status and fault are those of an error of which this holds
pub record IsErrorReported (Is : SemverError → Type 0) (status : ℕ) (fault : Fault) : Type 0 where
  pub error : SemverError
  pub is : Is error
  pub reported : IsRefusalReported (refusal_of error) status fault

-- the text was parsed as a version: whether that version is admitted, or the fault of the text
pub data IsAnswered (Admits : VersionValue → Type 0) (text : List ℕ) (status : ℕ) (answer : Bool) (fault : Fault)
    : Type 0 where
  answered : (v : VersionValue) → IsVersionText text v → status ≡ OK → (IsTrue answer ↔ Admits v)
      → IsAnswered Admits text status answer fault
  refused : (kind : Kind) (offset : ℕ) → IsFault text kind offset → IsFaultReported kind offset status fault
      → IsAnswered Admits text status answer fault

-- the text was parsed as a version: whether a range of these sets admits it, or the fault of the text
abbrev pub IsVersionReported : List (Ends VersionValue) → List ℕ → ℕ → Bool → Fault → Type 0
IsVersionReported sets text status answer fault = IsAnswered (RangeAdmits sets) text status answer fault

-- the range text is refused, or an allocation failed; or it is not refused, and the other text was parsed as a version
pub data IsPairReported (range version : List ℕ) (status : ℕ) (answer : Bool) (fault : Fault) : Type 0 where
  range_refused :
      IsErrorReported (λ e. IsOutOfMemory e ⊎ (IsRefusalAt range no_valid_ranges 0 e × IsRefused range)) status fault
      → IsPairReported range version status answer fault
  accepted : ¬ IsRefused range → IsAnswered (TextAdmits range) version status answer fault
      → IsPairReported range version status answer fault

-- the text is a version by the grammar of SemVer 2.0.0: whether that version is admitted; or it is none
pub data IsStrictReported (Admits : VersionValue → Type 0) (text : List ℕ) (status : ℕ) (answer : Bool) : Type 0 where
  strict : (v : VersionValue) → IsStrictVersionText text v → status ≡ OK → (IsTrue answer ↔ Admits v)
      → IsStrictReported Admits text status answer
  no_version : ((v : VersionValue) → ¬ IsStrictVersionText text v) → status ≡ REFUSED
      → IsStrictReported Admits text status answer
