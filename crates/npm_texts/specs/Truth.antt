-- What counts as true in the JSON of package files, where npm asks JavaScript.
use Rattle.std.specs.Prelude.{◌==◌, ℕ, List, Bool, true, false, not, length}
use Rattle.std.specs.Float.{float_zero}
use Rattle.std.specs.Float.Ieee.{eq}
use Rattle.std.specs.Option.{option_map_or}
use Rattle.serde_json.specs.Data.{Data, array, boolean, null, number, object, string}
use Rattle.serde_json.specs.Find.{get, to_float}

-- what counts as true in JavaScript: all values but `null`, `false`, zero and the empty string
abbrev pub is_true : Data → Bool
is_true null = false
is_true (boolean b) = b
is_true (number n) = not (eq (to_float n) float_zero)
is_true (string text) = not (length text == 0)
is_true (array _) = true
is_true (object _) = true

-- a member that is there and counts as true
abbrev pub has_true : (key : List ℕ) → Data → Bool
has_true key value = option_map_or is_true (get key value) false
