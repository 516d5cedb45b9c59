-- Names without a document that rule versions out: a version needs the name, and so it is never selected.
use Rattle.std.specs.Prelude.{◌&&◌, ℕ, List, Bool, bytes_eq, filter}
use Rattle.std.specs.List.{list_any}
use Rattle.version_solving.specs.declared.ask.Ask.{Ask}
use Rattle.version_solving.specs.declared.ask.Asker.{Asker}
use Rattle.version_solving.specs.declared.ask.Listed.{Listed}

-- an ask needs the name
abbrev pub needs : (name : List ℕ) → Ask → Bool
needs name ask = ask.needed && bytes_eq ask.name.now name

-- a version does
abbrev pub is_needed_in : (name : List ℕ) → Asker → Bool
is_needed_in name asker = list_any (needs name) asker.asks.items

-- a version of this name does
abbrev pub is_needed_of : (name : List ℕ) → Listed → Bool
is_needed_of name one = list_any (is_needed_in name) one.candidates.items

abbrev pub is_needed_by : List Listed → (name : List ℕ) → Bool
is_needed_by listed name = list_any (is_needed_of name) listed

-- those of these names that a version needs
abbrev pub missing_among : List Listed → (names : List (List ℕ)) → List (List ℕ)
missing_among listed names = filter (is_needed_by listed) names
