-- What holds of one test for version texts holds of each, and for each test that is true for the same names.
use Rattle.std.proofs.Common.{◌≡◌, ℕ, List, Bool, Option, subst, sym}
use Rattle.serde_json.specs.Data.{Data}
use Rattle.npm_advisories.specs.Files.{IsAuditError, IsFileFault, file_fault, is_among}
use Rattle.npm_advisories.specs.Faults.{FaultValue}
use Rattle.toml_datetime.specs.declared.datetime.Date.{Date}
use Rattle.npm_advisories.specs.Lemmas.VersionTests.{only-test}
use Rattle.npm_advisories.specs.Private.Reading.{IsErrorOf}
use Rattle.npm_advisories.specs.Private.VersionTest.{is_version}
use Rattle.npm_advisories.specs.declared.fault.AuditError.{AuditError}
use Rattle.npm_advisories.specs.declared.fault.AuditError.TheVariants as Errors

module _ (names : List (List ℕ)) (is_wanted : List ℕ → Bool) (same : (name : List ℕ) → is_wanted name ≡ is_among names name)
    (today : Date) (file : Data) where
  same-names : is_wanted ≡ is_among names
  same-names = λ i name. same name i

  pub fault-each : (fault : Option FaultValue) → file_fault today is_version is_wanted file ≡ fault
      → IsFileFault today names file fault
  fault-each fault e = λ other told. subst (λ t. file_fault today t (is_among names) file ≡ fault) (sym (only-test other told))
      (subst (λ w. file_fault today is_version w file ≡ fault) same-names e)

  pub audit-error : (error : AuditError) → IsErrorOf (file_fault today is_version is_wanted file) error
      → IsAuditError today names file error
  audit-error (Errors.Refused at) e = fault-each _ e
  audit-error Errors.Memory e = tt
