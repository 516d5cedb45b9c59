-- Versions and ranges as JSON strings: a string is read as `parse` reads its text.
use Rattle.std.specs.Prelude.{◌≡◌, ◌⊎◌, ℕ, ◌≤◌, List, [], length, Option, Some}
use Rattle.std.specs.Prelude.{None, Result, Ok, Err, IfErr, IfOk, IsOk, codes}
use Rattle.std.specs.declared.num.ParseIntError.{ParseIntError as IntFault}
use Rattle.semver_texts.specs.declared.TheConstants.{MAX_LENGTH}
use Rattle.semver_texts.specs.Print.{version_text}
use Rattle.semver_texts.specs.Version.{VersionValue}
use Rattle.semver_texts.specs.VersionText.{IsVersionText}
use Rattle.semver_versions.specs.declared.error.SemverError.{SemverError}
use Rattle.semver_versions.specs.declared.json.JsonError.{JsonError}
use Rattle.semver_versions.specs.declared.json.JsonError.TheVariants.{NotAString, Semver}
use Rattle.semver_versions.specs.Error.{IsOutOfMemory, Refusal}
use Rattle.semver_versions.specs.ErrorEquality.{error_value}
use Rattle.semver_versions.specs.ErrorParts.{error_kind_of}
use Rattle.semver_versions.specs.ErrorText.{kind_text}
use Rattle.semver_versions.specs.Fault.{IsFaultOf}
use Rattle.semver_texts.specs.ReadingBack.{HasText, VersionReadsBack}
use Rattle.semver_versions.specs.Error.{IsReadAs}

-- the result of `Version::parse` for a text, by the facts that its contract states
pub record IsVersionAnswer (text : List ℕ) (answer : Result VersionValue SemverError) : Type 0 where
  pub found : IfOk answer (λ v. IsVersionText text v)
  pub only : (v : VersionValue) → IsVersionText text v → IsReadAs v answer
  pub fault : IfErr answer (λ e. IsOutOfMemory e ⊎ IsFaultOf text e)
  pub plain : (v : VersionValue) → IsVersionText text v → v.pre_release ≡ [] → v.build ≡ [] → IsOk answer
  pub print : IfOk answer VersionReadsBack
  pub printed : (v : VersionValue) → HasText v → version_text v ≡ text → length text ≤ MAX_LENGTH → IsReadAs v answer

-- this holds of the result: of the value that was read, or of the error for the text
abbrev pub PassesOn : {V : Type 0} → (Result V SemverError → Type 0) → Result V JsonError → Type 0
PassesOn Holds (Ok v) = Holds (Ok v)
PassesOn Holds (Err (Semver e)) = Holds (Err e)
PassesOn Holds (Err NotAString) = ⊥

-- a JSON error as a value: nothing if the JSON value is no string, else the error for its text
abbrev pub json_error_value : JsonError → Option (Refusal × Option IntFault)
json_error_value NotAString = None
json_error_value (Semver e) = Some (error_value e)

-- the text that a JSON error prints: `expected a string`, or that of the error inside: `Failed to parse version.`
abbrev pub json_error_text : JsonError → Option (List ℕ)
json_error_text NotAString = Some (codes "expected a string")
json_error_text (Semver e) = kind_text (error_kind_of e)
