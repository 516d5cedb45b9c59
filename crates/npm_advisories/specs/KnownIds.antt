-- By which ids an advisory is known: the OSV schema's "id" and "aliases".
use Rattle.std.specs.Prelude.{◌||◌, ℕ, List, Bool, decimal, false}
use Rattle.std.specs.Option.{option_map_or}
use Rattle.serde_json.specs.Data.{Data, Items, item, no_items, number, string, unsigned}
use Rattle.serde_json.specs.Find.{as_str}
use Rattle.npm_advisories.specs.Advisories.{AboutValue}
use Rattle.npm_advisories.specs.Severities.{is_word}

-- a string is this text, with letters of either case
abbrev pub is_text : (id : List ℕ) → (value : Data) → Bool
is_text id value = option_map_or (is_word id) (as_str value) false

-- one of the items is
abbrev pub any_is : (id : List ℕ) → Items → Bool
any_is id no_items = false
any_is id (item value others) = is_text id value || any_is id others

-- an `id` is this text, or a number with these digits
abbrev pub is_id : (id : List ℕ) → (value : Data) → Bool
is_id id (string text) = is_word id text
is_id id (number (unsigned n)) = is_word id (decimal n)
is_id id _ = false

-- the `id` of an advisory is, or one of its aliases: nothing else is an id of it, not even the end of an address
abbrev pub is_known_as : (id : List ℕ) → AboutValue → Bool
is_known_as id about = is_id id about.id || any_is id about.aliases
