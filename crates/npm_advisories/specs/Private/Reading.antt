-- Why an advisory is not read.
use Rattle.std.specs.Prelude.{◌≡◌, ◌≢◌, ℕ, List, Option, Some, option_map}
use Rattle.npm_advisories.specs.Faults.{FaultValue, fault_at, fault_value}
use Rattle.npm_advisories.specs.Ids.{IdValue}
use Rattle.npm_advisories.specs.declared.fault.AuditError.{AuditError}
use Rattle.npm_advisories.specs.declared.fault.AuditError.TheVariants as Errors
use Rattle.npm_advisories.specs.declared.fault.FaultKind.{FaultKind}
use Rattle.npm_advisories.specs.declared.fault.Unread.{Unread}
use Rattle.npm_advisories.specs.declared.fault.Unread.TheVariants.{Memory, Refused}

-- it was not read because of this fault, or an allocation failed
abbrev pub IsUnreadAs : Option FaultKind → Unread → Type 0
IsUnreadAs fault (Refused kind) = fault ≡ Some kind
IsUnreadAs fault Memory = Unit {0}

-- there is no index because of this fault, or because an allocation failed
abbrev pub IsErrorOf : Option FaultValue → AuditError → Type 0
IsErrorOf fault (Errors.Refused at) = fault ≡ Some (fault_value at)
IsErrorOf fault Errors.Memory = Unit {0}

-- the fault with this name, place and id
abbrev pub at_place : (name : List ℕ) → (place : ℕ) → Option IdValue → Option FaultKind → Option FaultValue
at_place name place id fault = option_map (fault_at name place id) fault

-- the error of an advisory at a place
abbrev pub IsErrorAt : Unread → (name : List ℕ) → (place : ℕ) → Option IdValue → AuditError → Type 0
IsErrorAt (Refused kind) name place id error =
    IsErrorOf (Some (fault_at name place id kind)) error × (error ≢ Errors.Memory)
IsErrorAt Memory name place id error = error ≡ Errors.Memory
