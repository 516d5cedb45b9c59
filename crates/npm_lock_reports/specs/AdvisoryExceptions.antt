-- An exception to an advisory: OSV-Scanner's "Configure OSV-Scanner", "Ignore vulnerabilities by ID".
use Rattle.std.specs.Prelude.{◌==◌, ◌&&◌, ◌||◌, ℕ, List, Bool, false, nat_lt, Option, string_bytes}
use Rattle.std.specs.Option.{option_map_or}
use Rattle.toml_datetime.specs.declared.datetime.Date.{Date}
use Rattle.npm_lock_reports.specs.declared.advisory_exceptions.exception.Exception.{Exception}

-- an advisory with this id does not count for the package with this name, for this reason, until the end of this day
pub record ExceptionValue : Type 0 where
  pub id : List ℕ
  pub name : List ℕ
  pub reason : List ℕ
  pub until : Option Date

-- what a contract sees of it
abbrev pub exception_value : Exception → ExceptionValue
exception_value exception = record {
  id = string_bytes exception.id;
  name = string_bytes exception.name;
  reason = string_bytes exception.reason;
  until = exception.until;
}

-- the order of days: 2026-12-31 is before 2027-01-01
abbrev pub is_before : (day other : Date) → Bool
is_before day other = nat_lt day.year other.year || ((day.year == other.year)
    && (nat_lt day.month other.month || ((day.month == other.month) && nat_lt day.day other.day)))

-- The exception applies no more: its last day is before today. On the last day itself it applies. One without a last day is never
-- over.
abbrev pub is_over : (today : Date) → ExceptionValue → Bool
is_over today exception = option_map_or (λ last. is_before last today) exception.until false
