-- The place of the first exception that counts, by the ids that it may name.
use Rattle.std.specs.Prelude.{◌&&◌, ℕ, List, Bool, Option, None, Some, bytes_eq, min, not}
use Rattle.std.specs.List.{position_from}
use Rattle.npm_lock_reports.specs.AdvisoryExceptions.{is_over}
use Rattle.npm_lock_reports.specs.Index.{IsIndexOf}
use Rattle.npm_lock_reports.specs.Exceptions.{ExceptionsValue, exceptions_value}
use Rattle.npm_lock_reports.specs.declared.indexed.Indexed.{Indexed}

-- the index is that of the exceptions on their day
abbrev pub IsIndexed : Indexed → Type 0
IsIndexed indexed = IsIndexOf indexed.exceptions.today (exceptions_value indexed.exceptions).list indexed.index

-- of the exceptions that are about the package with this name, and name such an id
abbrev pub first_by : ExceptionsValue → (name : List ℕ) → (is_one : List ℕ → Bool) → Option ℕ
first_by exceptions name is_one = position_from
    (λ exception. not (is_over exceptions.today exception) && (bytes_eq exception.name name && is_one exception.id)) 0
    exceptions.list

-- the earlier of two places
abbrev pub earlier : (one other : Option ℕ) → Option ℕ
earlier None other = other
earlier (Some n) None = Some n
earlier (Some n) (Some m) = Some (min n m)
