-- What is equal in equal kinds and in equal errors.
use Rattle.std.specs.Prelude.{Option, Some, None}
use Rattle.std.specs.declared.num.ParseIntError.{ParseIntError as IntFault}
use Rattle.semver_versions.specs.declared.error.kind.SemverErrorKind.{SemverErrorKind}
use Rattle.semver_versions.specs.declared.error.kind.SemverErrorKind.TheVariants.{ParseIntError}
use Rattle.semver_versions.specs.declared.error.SemverError.{SemverError}
use Rattle.semver_versions.specs.Error.{Kind, kind_of, Refusal, refusal_of}

-- std's error for the digits, if the kind is `ParseIntError`
abbrev pub int_fault_of : SemverErrorKind → Option IntFault
int_fault_of (ParseIntError fault) = Some fault
int_fault_of _ = None

-- a kind as a value, with std's error for the digits
abbrev pub kind_value : SemverErrorKind → Kind × Option IntFault
kind_value k = (kind_of k, int_fault_of k)

-- an error as a value, with std's error for the digits
abbrev pub error_value : SemverError → Refusal × Option IntFault
error_value e = (refusal_of e, int_fault_of e.kind)
