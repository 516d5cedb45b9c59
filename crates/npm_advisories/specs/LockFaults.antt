-- Why there is no audit of a lock file.
use Rattle.std.specs.Prelude.{◌≡◌, List, Option, Some}
use Rattle.serde_json.specs.Data.{Data}
use Rattle.npm_packages.specs.Faults.{lock_fault}
use Rattle.npm_advisories.specs.Audit.{InstalledValue, names_of}
use Rattle.npm_advisories.specs.Faults.{FaultValue, fault_value}
use Rattle.npm_advisories.specs.Files.{IsFileFault}
use Rattle.npm_advisories.specs.LockFile.{AreInstalledOf}
use Rattle.toml_datetime.specs.declared.datetime.Date.{Date}
use Rattle.npm_advisories.specs.declared.fault.AuditError.{AuditError}
use Rattle.npm_advisories.specs.declared.fault.AuditError.TheVariants as Errors
use Rattle.npm_advisories.specs.declared.lock.LockError.{LockError}
use Rattle.npm_advisories.specs.declared.lock.LockError.TheVariants.{Advisories, Lock, Memory}

-- this is the fault of the advisories where the packages of this lock file are installed, or they have none
abbrev pub IsFileFaultBeside : (today : Date) → (lock file : Data) → Option FaultValue → Type 0
IsFileFaultBeside today lock file fault =
    (installed : List InstalledValue) × AreInstalledOf lock installed × IsFileFault today (names_of installed) file fault

-- there is no audit of this lock file because the advisories have this fault, or because an allocation failed
abbrev pub IsAuditErrorBeside : (today : Date) → (lock file : Data) → AuditError → Type 0
IsAuditErrorBeside today lock file (Errors.Refused fault) = IsFileFaultBeside today lock file (Some (fault_value fault))
IsAuditErrorBeside today lock file Errors.Memory = Unit {0}

-- the lock file has this fault, or the advisories have it, or an allocation failed
abbrev pub IsLockError : (today : Date) → (lock file : Data) → LockError → Type 0
IsLockError today lock file (Lock fault) = lock_fault lock ≡ Some fault
IsLockError today lock file (Advisories fault) = IsFileFaultBeside today lock file (Some (fault_value fault))
IsLockError today lock file Memory = Unit {0}
