-- Places in a JSON text: lines and columns as editors count them, the name of a member at an offset, and an item of a list.
use Rattle.std.specs.Prelude.{◌≡◌, ◌≢◌, ◌⊎◌, ◌||◌, ◌==◌, ◌+◌, ◌≤◌, ℕ, List, [], ◌∷◌, ◌++◌, Bool, false, true, Option, Some}
use Rattle.std.specs.Prelude.{All, count_by, length, nat_le, nat_lt, slice_get, take, drop}
use Rattle.json.specs.Ascii.{carriage_return, comma, line_feed, open_bracket, quote, space, tab}
use Rattle.json.specs.Token as Tokens
use Rattle.json.specs.Lex.{tokens}
use Rattle.json_places.specs.Steps.{StepValue, last_step, steps_seen, to_item, to_member}
use Rattle.json_places.specs.declared.path.Path.{Path}
use Rattle.json_places.specs.declared.place.Place.{Place}

-- ---- lines and columns

-- the byte is the first one of a character in UTF-8: `ä` has two bytes, and the second one begins no character
abbrev pub begins_character : (byte : ℕ) → Bool
begins_character byte = nat_lt byte 128 || nat_le 192 byte

-- A text of this many lines before the end: its newline bytes, and one. Its last line has one character less than the
-- column. The last line is what follows the last newline byte.
pub record IsPlaceAfter (before : List ℕ) (line column : ℕ) : Type 0 where
  pub lines : List ℕ
  pub last : List ℕ
  pub split : before ≡ lines ++ last
  pub whole : (lines ≡ []) ⊎ ((front : List ℕ) × (lines ≡ front ++ (line_feed ∷ [])))
  pub unbroken : All (λ byte. byte ≢ line_feed) last
  pub counted_lines : line ≡ count_by (λ byte. byte == line_feed) before + 1
  pub counted_characters : column ≡ count_by begins_character last + 1

-- the place is in the text, and its line and column are those after the text before it
pub record IsPlace (text : List ℕ) (place : Place) : Type 0 where
  pub inside : place.offset ≤ length text
  pub after : IsPlaceAfter (take place.offset text) place.line place.column

-- ---- names

-- The name of a member begins at this offset: there is a quotation mark, and the text from there on reads as this name and a
-- colon. `tokens` are those of JSON (RFC 8259): a name counts without its escapes, so `"\u0061"` is the name `a`.
pub record IsNameAt (text : List ℕ) (offset : ℕ) (name : List ℕ) : Type 0 where
  pub quoted : slice_get text offset ≡ Some quote
  pub rest : List Tokens.Token
  pub reads : tokens (drop offset text) ≡ Tokens.key name ∷ rest

-- ---- items

-- JSON's white space: a blank, a tab, a newline and a carriage return
abbrev pub is_white_space : (byte : ℕ) → Bool
is_white_space byte = (byte == space) || (byte == tab) || (byte == line_feed) || (byte == carriage_return)

-- the byte is `[` or a comma
abbrev pub is_mark : (byte : ℕ) → Bool
is_mark byte = (byte == open_bracket) || (byte == comma)

-- before this offset stand `[` or a comma, and white space after it or none
pub data IsAfterMark (text : List ℕ) : (offset : ℕ) → Type 0 where
  marked : (offset byte : ℕ) → slice_get text offset ≡ Some byte → is_mark byte ≡ true → IsAfterMark text (offset + 1)
  spaced : (offset byte : ℕ) → slice_get text offset ≡ Some byte → is_white_space byte ≡ true → IsAfterMark text offset
      → IsAfterMark text (offset + 1)

-- a value begins with this token: an object, a list, a string that is no name, a number, or a word such as `null`
abbrev pub begins_value : Tokens.Token → Bool
begins_value Tokens.begin_object = true
begins_value Tokens.begin_array = true
begins_value (Tokens.string text) = true
begins_value (Tokens.number text) = true
begins_value (Tokens.boolean value) = true
begins_value Tokens.null = true
begins_value _ = false

-- An item of a list begins at this offset: there is no white space, the text from there on reads as a value, and before it
-- is `[` or a comma. A comma in an object has a name after it, and no value
pub record IsItemAt (text : List ℕ) (offset : ℕ) : Type 0 where
  pub byte : ℕ
  pub there : slice_get text offset ≡ Some byte
  pub solid : is_white_space byte ≡ false
  pub listed : IsAfterMark text offset
  pub first : Tokens.Token
  pub rest : List Tokens.Token
  pub reads : tokens (drop offset text) ≡ first ∷ rest
  pub begins : begins_value first ≡ true

-- ---- the places of paths

-- the name of this member begins at the offset, or an item does
abbrev pub IsStepAt : (text : List ℕ) → (offset : ℕ) → StepValue → Type 0
IsStepAt text offset (to_member name) = IsNameAt text offset name
IsStepAt text offset (to_item position) = IsItemAt text offset

-- what the last step of a path leads to is at this place
pub record IsPlaceOf (text : List ℕ) (steps : List StepValue) (place : Place) : Type 0 where
  pub step : StepValue
  pub last : last_step steps ≡ Some step
  pub there : IsStepAt text place.offset step
  pub at : IsPlace text place

-- a place for each path, or that none was found
pub record ArePlacesOf (text : List ℕ) (paths : List Path) (found : List (Option Place)) : Type 0 where
  pub one_for_each : length found ≡ length paths
  pub each : (k : ℕ) (path : Path) (place : Place) → slice_get paths k ≡ Some path
      → slice_get found k ≡ Some (Some place) → IsPlaceOf text (steps_seen path.steps.items) place

-- ---- the places of subjects

-- the place where every text begins
abbrev pub start : Place
start = record { offset = 0; line = 1; column = 1 }

-- the place of one of the subject's paths, or where the text begins
pub data IsChoice (text : List ℕ) (paths : List Path) (subject : ℕ) : Place → Type 0 where
  none : IsChoice text paths subject start
  of_path : (k : ℕ) (path : Path) (place : Place) → slice_get paths k ≡ Some path → path.subject ≡ subject
      → IsPlaceOf text (steps_seen path.steps.items) place → IsChoice text paths subject place

-- a place for each subject
pub record AreChoices (text : List ℕ) (paths : List Path) (count : ℕ) (places : List Place) : Type 0 where
  pub one_for_each : length places ≡ count
  pub each : (k : ℕ) (place : Place) → slice_get places k ≡ Some place → IsChoice text paths k place

-- the place of one of these paths, or where the text begins
pub data IsShownAt (text : List ℕ) (paths : List (List StepValue)) : Place → Type 0 where
  at_start : IsShownAt text paths start
  at_step : (rank : ℕ) (steps : List StepValue) (place : Place) → slice_get paths rank ≡ Some steps
      → IsPlaceOf text steps place → IsShownAt text paths place
