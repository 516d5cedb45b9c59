-- The exceptions of a file in TOML: OSV-Scanner's "Configure OSV-Scanner", "Ignore vulnerabilities by ID".
use Rattle.std.specs.Prelude.{◌≡◌, ◌||◌, ◌+◌, ◌==◌, length, ℕ, List, [], ◌∷◌, Bool, bytes_eq, codes, if◌then◌else◌, is_some, string_bytes}
use Rattle.std.specs.Prelude.{Option, None, Some, option_and_then, option_map, Result, Err, Ok}
use Rattle.std.specs.List.{list_any}
use Rattle.std.specs.Str.{trim}
use Rattle.toml.specs.Data.{Data, Items, Members, array, as_array, as_datetime, as_str, as_table, get_member, item, member, no_items, no_members}
use Rattle.toml.specs.Parse.{parse_document}
use Rattle.toml_datetime.specs.declared.datetime.Date.{Date}
use Rattle.toml_datetime.specs.declared.datetime.Datetime.{Datetime}
use Rattle.npm_lock_reports.specs.AdvisoryExceptions.{ExceptionValue}
use Rattle.npm_lock_reports.specs.declared.advisory_exceptions.error.ExceptionFault.{ExceptionFault}
use Rattle.npm_lock_reports.specs.declared.advisory_exceptions.error.ExceptionFault.TheVariants as Faults
use Rattle.npm_lock_reports.specs.declared.advisory_exceptions.error.ExceptionsError.{ExceptionsError}
use Rattle.npm_lock_reports.specs.declared.advisory_exceptions.error.ExceptionsError.TheVariants as Errors

-- ---- faults

-- what is wrong with a file that is TOML, with the place of the exception
pub data FaultValue : Type 0 where
  no_such_key : (key : List ℕ) → FaultValue
  no_list : FaultValue
  no_table : (place : ℕ) → FaultValue
  no_such_exception_key : (place : ℕ) → (key : List ℕ) → FaultValue
  no_id : (place : ℕ) → FaultValue
  no_package : (place : ℕ) → FaultValue
  no_reason : (place : ℕ) → FaultValue
  no_day : (place : ℕ) → FaultValue

-- as a contract sees it
abbrev pub fault_value : ExceptionFault → FaultValue
fault_value (Faults.Key key) = no_such_key (string_bytes key)
fault_value Faults.List = no_list
fault_value (Faults.Table place) = no_table place
fault_value (Faults.ExceptionKey place key) = no_such_exception_key place (string_bytes key)
fault_value (Faults.Id place) = no_id place
fault_value (Faults.Package place) = no_package place
fault_value (Faults.Reason place) = no_reason place
fault_value (Faults.Until place) = no_day place

-- ---- keys

-- the keys of the file, and those of an exception
abbrev pub file_keys : List (List ℕ)
file_keys = codes "exceptions" ∷ []

abbrev pub exception_keys : List (List ℕ)
exception_keys = codes "id" ∷ codes "package" ∷ codes "reason" ∷ codes "until" ∷ []

abbrev pub is_among : (known : List (List ℕ)) → (key : List ℕ) → Bool
is_among known key = list_any (λ one. bytes_eq one key) known

-- the first key that is none of these
abbrev pub unknown_key : (known : List (List ℕ)) → Members → Option (List ℕ)
unknown_key known no_members = None
unknown_key known (member key value others) = if is_among known key then unknown_key known others else Some key

-- ---- one exception

-- a text that is not white space alone
abbrev pub is_blank : (text : List ℕ) → Bool
is_blank text = length (trim text) == 0

abbrev pub some_text : List ℕ → Option (List ℕ)
some_text text = if is_blank text then None else Some text

abbrev pub text_at : (key : List ℕ) → Members → Option (List ℕ)
text_at key members = option_and_then some_text (option_and_then as_str (get_member key members))

-- a day, as 2027-03-01, without a time
abbrev pub day_in : Datetime → Option Date
day_in datetime = if is_some datetime.time || is_some datetime.offset then None else datetime.date

abbrev pub day_of : Data → Option Date
day_of value = option_and_then day_in (as_datetime value)

-- the last day, which may be absent; or it is no day
abbrev pub last_day : Option Data → Option (Option Date)
last_day None = Some None
last_day (Some value) = option_map (λ day. Some day) (day_of value)

abbrev pub until_at : Members → Option (Option Date)
until_at members = last_day (get_member (codes "until") members)

-- the exception with these parts, or the first that it lacks
abbrev pub with_parts : (place : ℕ) → (id name reason : Option (List ℕ)) → (until : Option (Option Date))
    → Result ExceptionValue FaultValue
with_parts place None name reason until = Err (no_id place)
with_parts place (Some id) None reason until = Err (no_package place)
with_parts place (Some id) (Some name) None until = Err (no_reason place)
with_parts place (Some id) (Some name) (Some reason) None = Err (no_day place)
with_parts place (Some id) (Some name) (Some reason) (Some until) =
    Ok (record { id = id; name = name; reason = reason; until = until })

abbrev pub parts_in : (place : ℕ) → Members → Result ExceptionValue FaultValue
parts_in place members = with_parts place (text_at (codes "id") members) (text_at (codes "package") members)
    (text_at (codes "reason") members) (until_at members)

-- a table that has no other key
abbrev pub checked_parts : (place : ℕ) → (unknown : Option (List ℕ)) → Members → Result ExceptionValue FaultValue
checked_parts place (Some key) _ = Err (no_such_exception_key place key)
checked_parts place None members = parts_in place members

abbrev pub in_table : (place : ℕ) → Option Members → Result ExceptionValue FaultValue
in_table place None = Err (no_table place)
in_table place (Some members) = checked_parts place (unknown_key exception_keys members) members

-- the exception at this place of the list
abbrev pub exception_of : (place : ℕ) → Data → Result ExceptionValue FaultValue
exception_of place value = in_table place (as_table value)

-- ---- all exceptions

abbrev pub with_first : Result ExceptionValue FaultValue → Result (List ExceptionValue) FaultValue
    → Result (List ExceptionValue) FaultValue
with_first (Err fault) others = Err fault
with_first (Ok one) (Err fault) = Err fault
with_first (Ok one) (Ok others) = Ok (one ∷ others)

-- the exceptions of a list, from this place on, or the first fault
abbrev pub items_read : (place : ℕ) → Items → Result (List ExceptionValue) FaultValue
items_read place no_items = Ok []
items_read place (item value others) = with_first (exception_of place value) (items_read (place + 1) others)

abbrev pub list_read : Option Items → Result (List ExceptionValue) FaultValue
list_read None = Err no_list
list_read (Some items) = items_read 0 items

abbrev pub value_read : Option Data → Result (List ExceptionValue) FaultValue
value_read None = Ok []
value_read (Some value) = list_read (as_array value)

abbrev pub checked_read : (unknown : Option (List ℕ)) → Members → Result (List ExceptionValue) FaultValue
checked_read (Some key) _ = Err (no_such_key key)
checked_read None members = value_read (get_member (codes "exceptions") members)

-- the exceptions of a file with these values
abbrev pub exceptions_of : Members → Result (List ExceptionValue) FaultValue
exceptions_of members = checked_read (unknown_key file_keys members) members

-- the exceptions of a text
abbrev pub AreExceptions : (text : List ℕ) → List ExceptionValue → Type 0
AreExceptions text exceptions = (members : Members) × (parse_document text ≡ Some members)
    × (exceptions_of members ≡ Ok exceptions)

-- ---- why there are none

-- this fault was found, or memory ran out
abbrev pub IsRefusedAs : {V : Type 0} → Result V FaultValue → ExceptionsError → Type 0
IsRefusedAs read (Errors.Faulty fault _ _) = read ≡ Err (fault_value fault)
IsRefusedAs read Errors.Memory = Unit {0}
IsRefusedAs read _ = ⊥

-- a key of the file, or of the exception at this place, has another name
abbrev pub key_fault : (place : Option ℕ) → (key : List ℕ) → FaultValue
key_fault None key = no_such_key key
key_fault (Some place) key = no_such_exception_key place key

abbrev pub IsKeyError : (place : Option ℕ) → (key : List ℕ) → ExceptionsError → Type 0
IsKeyError place key error = IsRefusedAs {V = ExceptionValue} (Err (key_fault place key)) error

-- the text is no TOML, or its values have this fault, or memory ran out
abbrev pub IsRefused : (text : List ℕ) → ExceptionsError → Type 0
IsRefused text (Errors.NoToml line column said) = parse_document text ≡ None
IsRefused text (Errors.Faulty fault _ _) = (members : Members) × (parse_document text ≡ Some members)
    × (exceptions_of members ≡ Err (fault_value fault))
IsRefused text Errors.Memory = Unit {0}
IsRefused text _ = ⊥
