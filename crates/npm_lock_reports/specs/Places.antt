-- Which exception of a list counts for an advisory and a package.
use Rattle.std.specs.Prelude.{◌&&◌, ℕ, List, Bool, Option, bytes_eq, map, not}
use Rattle.std.specs.Char.{to_ascii_lowercase}
use Rattle.std.specs.List.{position_from}
use Rattle.toml_datetime.specs.declared.datetime.Date.{Date}
use Rattle.npm_lock_reports.specs.AdvisoryExceptions.{ExceptionValue, is_over}

-- the ids are the same, with letters of either case: `GHSA-1` and `ghsa-1`
abbrev pub is_same_id : (one other : List ℕ) → Bool
is_same_id one other = bytes_eq (map to_ascii_lowercase other) (map to_ascii_lowercase one)

-- the exception is not over, and is about the package with this name and the advisory with this id
abbrev pub excepts : (today : Date) → (name id : List ℕ) → ExceptionValue → Bool
excepts today name id exception =
    not (is_over today exception) && (bytes_eq exception.name name && is_same_id exception.id id)

-- the place of the first one
abbrev pub place_of : (today : Date) → List ExceptionValue → (name id : List ℕ) → Option ℕ
place_of today list name id = position_from (excepts today name id) 0 list
