-- Which advisories are excepted for a package, and which packages are left.
use Rattle.std.specs.Prelude.{◌&&◌, ℕ, List, [], ◌∷◌, Bool, bytes_eq, filter, map, not}
use Rattle.std.specs.Prelude.{Option, None, Some, is_none}
use Rattle.std.specs.List.{filter_map, position_from}
use Rattle.toml_datetime.specs.declared.datetime.Date.{Date}
use Rattle.npm_lock_reports.specs.AdvisoryExceptions.{ExceptionValue, exception_value, is_over}
use Rattle.npm_advisories.specs.Advisories.{AboutValue}
use Rattle.npm_advisories.specs.Audit.{FoundValue}
use Rattle.npm_advisories.specs.KnownIds.{is_known_as}
use Rattle.npm_lock_reports.specs.declared.exceptions.Exceptions.{Exceptions}

-- the exceptions, and the day on which they are asked
pub record ExceptionsValue : Type 0 where
  pub list : List ExceptionValue
  pub today : Date

-- what a contract sees of them
abbrev pub exceptions_value : Exceptions → ExceptionsValue
exceptions_value exceptions = record { list = map exception_value exceptions.list.now; today = exceptions.today }

-- ---- an exception

-- the exception is not over, and is about the package with this name and this advisory
abbrev pub applies : (today : Date) → ExceptionValue → (name : List ℕ) → AboutValue → Bool
applies today exception name about =
    not (is_over today exception) && (bytes_eq exception.name name && is_known_as exception.id about)

-- the place of the first exception that applies
abbrev pub place_of : ExceptionsValue → (name : List ℕ) → AboutValue → Option ℕ
place_of exceptions name about =
    position_from (λ exception. applies exceptions.today exception name about) 0 exceptions.list

-- ---- what is left

-- these advisories, without those that are excepted for the package with this name
abbrev pub hits_among : ExceptionsValue → (name : List ℕ) → List AboutValue → List AboutValue
hits_among exceptions name hits = filter (λ about. is_none (place_of exceptions name about)) hits

-- a package with these advisories, if there are any
abbrev pub with_hits : FoundValue → List AboutValue → Option FoundValue
with_hits found [] = None
with_hits found (about ∷ others) = Some (record found { hits = about ∷ others })

abbrev pub left_one : ExceptionsValue → FoundValue → Option FoundValue
left_one exceptions found = with_hits found (hits_among exceptions found.name found.hits)

-- all packages that are left, in their order
abbrev pub left_in : ExceptionsValue → List FoundValue → List FoundValue
left_in exceptions found = filter_map (left_one exceptions) found

-- a list of one, or none
abbrev pub some_list : {A : Type 0} → Option A → List A
some_list None = []
some_list (Some one) = one ∷ []
