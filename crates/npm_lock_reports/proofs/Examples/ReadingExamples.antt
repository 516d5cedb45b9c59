-- Worked examples of files of exceptions.
use Rattle.std.proofs.Common.{◌≡◌, ◌∷◌, [], None, Some, Err, Ok, codes, pos, refl}
use Rattle.std.specs.Str.{chars, trim_end, trim_start}
use Rattle.toml.specs.Data.{Data, Items, Members, array, datetime, integer, item, member, no_items, no_members, string, table}
use Rattle.toml_datetime.specs.declared.datetime.Date.{Date}
use Rattle.npm_lock_reports.specs.Reading.{exceptions_of, no_day, no_id, no_list, no_reason, no_such_exception_key, no_such_key, no_table}

abbrev last : Date
last = record { year = 2027; month = 3; day = 1 }

-- an exception of `lodash` with these members after `id`
abbrev lodash : Members → Data
lodash others = table (member (codes "id") (string (codes "GHSA-1")) (member (codes "package") (string (codes "lodash")) others))

abbrev why : Members → Members
why others = member (codes "reason") (string (codes "only used to build")) others

-- a file with these exceptions
abbrev file : Items → Members
file items = member (codes "exceptions") (array items) no_members

pub an_exception : exceptions_of (file (item (lodash (why (member (codes "until")
    (datetime (record { date = Some last; time = None; offset = None })) no_members))) no_items))
    ≡ Ok (record { id = codes "GHSA-1"; name = codes "lodash"; reason = codes "only used to build"; until = Some last } ∷ [])
unfolding chars trim_end trim_start lib.Utf8.encode
an_exception = refl

pub without_a_last_day : exceptions_of (file (item (lodash (why no_members)) no_items))
    ≡ Ok (record { id = codes "GHSA-1"; name = codes "lodash"; reason = codes "only used to build"; until = None } ∷ [])
unfolding chars trim_end trim_start lib.Utf8.encode
without_a_last_day = refl

pub an_empty_file : exceptions_of no_members ≡ Ok []
an_empty_file = refl

pub another_key : exceptions_of (member (codes "IgnoredVulns") (array no_items) no_members)
    ≡ Err (no_such_key (codes "IgnoredVulns"))
another_key = refl

pub no_list_at_all : exceptions_of (member (codes "exceptions") (integer (pos 1)) no_members) ≡ Err no_list
no_list_at_all = refl

-- the first fault is told, with the place of its exception
pub an_item_that_is_no_table : exceptions_of (file (item (lodash (why no_members)) (item (integer (pos 1)) no_items)))
    ≡ Err (no_table 1)
unfolding chars trim_end trim_start lib.Utf8.encode
an_item_that_is_no_table = refl

pub another_key_of_an_exception : exceptions_of (file (item (table (member (codes "ignoreUntil") (integer (pos 1)) no_members)) no_items))
    ≡ Err (no_such_exception_key 0 (codes "ignoreUntil"))
another_key_of_an_exception = refl

pub no_id_at_all : exceptions_of (file (item (table no_members) no_items)) ≡ Err (no_id 0)
no_id_at_all = refl

pub no_reason_at_all : exceptions_of (file (item (lodash no_members) no_items)) ≡ Err (no_reason 0)
unfolding chars trim_end trim_start lib.Utf8.encode
no_reason_at_all = refl

-- white space says nothing
pub a_blank_reason : exceptions_of (file (item (lodash (member (codes "reason") (string (codes "  ")) no_members)) no_items)) ≡ Err (no_reason 0)
unfolding chars trim_end trim_start lib.Utf8.encode
a_blank_reason = refl

-- a text is no day
pub a_day_in_quotes : exceptions_of (file (item (lodash (why (member (codes "until") (string (codes "2027-03-01")) no_members))) no_items))
    ≡ Err (no_day 0)
unfolding chars trim_end trim_start lib.Utf8.encode
a_day_in_quotes = refl
