-- When a version was published: the member `time` of a document.
use Rattle.std.specs.Prelude.{◌||◌, ℕ, ℤ, List, Bool, true, false, not, Option, Some, None, Ok, Err, Result, codes}
use Rattle.std.specs.Prelude.{int_le, option_and_then}
use Rattle.std.specs.Option.{option_map_or}
use Rattle.serde_json.specs.Data.{Data}
use Rattle.serde_json.specs.Find.{as_str, get}
use Rattle.jiff_fmt.specs.Temporal.{parse_timestamp}
use Rattle.jiff_core.specs.declared.error.Error.{Error}
use Rattle.npm_texts.specs.Truth.{is_true}

-- the member of `time` for a version
abbrev pub time_of : (packument : Data) → (key : List ℕ) → Option Data
time_of packument key = option_and_then (get key) (get (codes "time") packument)

-- the time that was read, if one was
abbrev pub read_time : Result ℤ Error → Option ℤ
read_time (Ok nanosecond) = Some nanosecond
read_time (Err _) = None

-- the time of a text, in nanoseconds since 1970-01-01T00:00:00Z: `2024-03-01T12:00:00.000Z`
abbrev pub time_text : (text : List ℕ) → Option ℤ
time_text text = read_time (parse_timestamp text)

-- the time is not after the other
abbrev pub is_at_most : (before : Option ℤ) → (time : ℤ) → Bool
is_at_most None time = true
is_at_most (Some before) time = int_le time before

-- The time of a text is not after the other. A text that is no time is not in time, even without `before`.
abbrev pub is_text_in_time : (before : Option ℤ) → (text : List ℕ) → Bool
is_text_in_time before text = option_map_or (is_at_most before) (time_text text) false

-- The time that a member for a version writes is not after the other. A member that JavaScript counts as false is in time.
abbrev pub is_in_time : (before : Option ℤ) → (time : Data) → Bool
is_in_time before time = not (is_true time) || option_map_or (is_text_in_time before) (as_str time) false

-- the version was not published after this time; a version without a time counts as published
abbrev pub is_published : (before : Option ℤ) → (packument : Data) → (key : List ℕ) → Bool
is_published before packument key = option_map_or (is_in_time before) (time_of packument key) true
