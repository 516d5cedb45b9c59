-- The times of OSV's form: the OSV schema's "withdrawn", and RFC 3339, section 5.6.
use Rattle.std.specs.Prelude.{◌==◌, ◌&&◌, ◌||◌, ℕ, List, [], ◌∷◌, Bool, false, if◌then◌else◌, Option, Some, None, bytes_eq, codes}
use Rattle.std.specs.Prelude.{nat_lt, option_and_then}
use Rattle.std.specs.Char.{is_ascii_digit}
use Rattle.std.specs.Option.{option_map_or}
use Rattle.toml_datetime.specs.Parse.{parse_datetime}
use Rattle.toml_datetime.specs.declared.datetime.Date.{Date}
use Rattle.semver_texts.specs.Characters.{digit_zero}

-- the character of a form that this one fits: `0` for any digit, and else itself
abbrev pub form_of : (c : ℕ) → ℕ
form_of c = if is_ascii_digit c then digit_zero else c

-- what follows a text of this form: `Z` of `2022-01-31Z` for `0000-00-00`
abbrev pub after : (form text : List ℕ) → Option (List ℕ)
after [] text = Some text
after (f ∷ form) [] = None
after (f ∷ form) (c ∷ text) = if form_of c == f then after form text else None

-- digits, as many as there are, and `Z`
abbrev pub is_digits_end : (text : List ℕ) → Bool
is_digits_end [] = false
is_digits_end (c ∷ text) = if is_ascii_digit c then is_digits_end text else bytes_eq (c ∷ text) (codes "Z")

-- the end of a time in UTC, with a fraction of a second or without: `Z` and `.5Z`
abbrev pub is_time_end : (text : List ℕ) → Bool
is_time_end text = bytes_eq text (codes "Z") || option_map_or is_digits_end (after (codes ".0") text) false

-- the form of a time in UTC: `2022-01-31T23:59:59Z`, and `2022-01-31T23:59:59.5Z`
abbrev pub is_timestamp : (text : List ℕ) → Bool
is_timestamp text = option_map_or is_time_end (after (codes "0000-00-00T00:00:00") text) false

-- The day of a time in UTC: 2022-01-31 for `2022-01-31T23:59:59Z`. A text such as `2022-02-30T00:00:00Z` or `2022-01-31T24:00:00Z`
-- has the form of a time, and is none
abbrev pub day_of : (text : List ℕ) → Option Date
day_of text = if is_timestamp text then option_and_then (λ time. time.date) (parse_datetime text) else None

-- the order of days: 2026-12-31 is before 2027-01-01
abbrev pub is_before : (day other : Date) → Bool
is_before day other = nat_lt day.year other.year || ((day.year == other.year)
    && (nat_lt day.month other.month || ((day.month == other.month) && nat_lt day.day other.day)))
