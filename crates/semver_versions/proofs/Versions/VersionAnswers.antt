-- The result of parsing a version text: the version that it writes, or its fault.
use native.Mathlib.Omega.{arith}
use Rattle.std.proofs.Common.{◌≡◌, ◌≤◌, ◌⊎◌, ℕ, List, length, Ok, Err, inl, inr}
use Rattle.std.specs.Prelude.{IfErr, IfOk, Result}
use Rattle.semver_texts.specs.Print.{version_text}
use Rattle.semver_texts.specs.Version.{VersionValue}
use Rattle.semver_texts.specs.VersionText.{IsVersionText}
use Rattle.semver_texts.specs.declared.TheConstants.{MAX_LENGTH}
use Rattle.semver_versions.specs.Lemmas.Versions.OneReading.{one_reading}
use Rattle.semver_versions.specs.Error.{IsOutOfMemory}
use Rattle.semver_versions.specs.Fault.{IsFaultOf}
use Rattle.semver_texts.specs.ReadingBack.{HasText, VersionReadsBack}
use Rattle.semver_versions.specs.Error.{IsReadAs}
use Rattle.semver_versions.specs.declared.error.SemverError.{SemverError}
use Rattle.semver_texts.specs.Lemmas.Versions.PrintReading.{version-print_read, version-reads_back}
use Rattle.semver_versions.specs.Lemmas.Versions.FaultLemmas.{version-no_fault}

-- no other version is the text
pub only-answer : (text : List ℕ) (answer : Result VersionValue SemverError) → IfOk answer (λ v. IsVersionText text v)
    → IfErr answer (λ e. IsOutOfMemory e ⊎ IsFaultOf text e) → (v : VersionValue) → IsVersionText text v
    → IsReadAs v answer
only-answer text (Ok w) found fault v h = one_reading text w v found h
only-answer text (Err e) found (inl memory) v h = memory
only-answer text (Err e) found (inr (kind, offset, fault, refusal)) v h = absurd
    (version-no_fault text v kind offset h fault)

-- its print is read as it
pub answer-reads_back : (text : List ℕ) (answer : Result VersionValue SemverError)
    → IfOk answer (λ v. IsVersionText text v) → IfOk answer VersionReadsBack
answer-reads_back text answer found = grind (arith, version-reads_back)

-- and a text that is a print is read as the version
pub answer-printed : (text : List ℕ) (answer : Result VersionValue SemverError)
    → IfOk answer (λ v. IsVersionText text v)
    → IfErr answer (λ e. IsOutOfMemory e ⊎ IsFaultOf text e) → (v : VersionValue) → HasText v → version_text v ≡ text
    → length text ≤ MAX_LENGTH → IsReadAs v answer
answer-printed text answer found fault v has print short = grind (arith, only-answer, version-print_read)
