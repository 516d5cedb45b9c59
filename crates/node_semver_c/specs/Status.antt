-- What a call returns beside its value: a status, and the fault of a text that is refused.
use Rattle.std.specs.Prelude.{◌≡◌, ◌⊎◌, ℕ, Option, Some, None}
use Rattle.semver_versions.specs.Error.{Kind, Refusal, max_length, incomplete, parse_int, max_int, context}
use Rattle.semver_versions.specs.Error.{no_valid_ranges, other, out_of_memory}
use Rattle.node_semver_c.specs.declared.status.TheConstants.{OK, NONE, REFUSED, OUT_OF_MEMORY}
use Rattle.node_semver_c.specs.declared.status.Fault.{Fault}

-- the code of a kind, from 1 in the order of `SemverErrorKind`
abbrev pub code_of : Kind → ℕ
code_of max_length = 1
code_of incomplete = 2
code_of parse_int = 3
code_of (max_int number) = 4
code_of (context word) = 5
code_of no_valid_ranges = 6
code_of other = 7
code_of out_of_memory = 8

-- the number of a kind that has one
abbrev pub number_in : Kind → ℕ
number_in max_length = 0
number_in incomplete = 0
number_in parse_int = 0
number_in (max_int number) = number
number_in (context word) = 0
number_in no_valid_ranges = 0
number_in other = 0
number_in out_of_memory = 0

-- out of memory is a status of its own
abbrev pub status_of : Kind → ℕ
status_of max_length = REFUSED
status_of incomplete = REFUSED
status_of parse_int = REFUSED
status_of (max_int number) = REFUSED
status_of (context word) = REFUSED
status_of no_valid_ranges = REFUSED
status_of other = REFUSED
status_of out_of_memory = OUT_OF_MEMORY

-- status and fault are those of a fault of this kind at this offset
pub record IsFaultReported (of : Kind) (at : ℕ) (status : ℕ) (fault : Fault) : Type 0 where
  pub status_is : status ≡ status_of of
  pub kind : fault.kind ≡ code_of of
  pub offset : fault.offset ≡ at
  pub number : fault.number ≡ number_in of

-- status and fault are those of this refusal
abbrev pub IsRefusalReported : Refusal → ℕ → Fault → Type 0
IsRefusalReported refusal = IsFaultReported refusal.kind refusal.offset

-- the value is in the handle, or an allocation failed and the handle is empty
abbrev pub IsKept : {X : Type 0} → X → ℕ → Option X → Type 0
IsKept x status held = ((status ≡ OK) × (held ≡ Some x)) ⊎ ((status ≡ OUT_OF_MEMORY) × (held ≡ None))

-- the value is in the handle; or there is none, and the handle is empty; or an allocation failed, and the handle is
-- empty
abbrev pub IsKeptAnswer : {X : Type 0} → Option X → ℕ → Option X → Type 0
IsKeptAnswer None status held = (status ≡ NONE) × (held ≡ None)
IsKeptAnswer (Some x) status held = IsKept x status held
