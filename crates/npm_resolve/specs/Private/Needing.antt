-- Names that versions need, one after the other.
use Rattle.std.specs.Prelude.{◌≡◌, ◌||◌, ℕ, List, Bool}
use Rattle.std.specs.BTreeSet.{contains_text}
use Rattle.npm_resolve.specs.declared.missing.Needed.{Needed}

abbrev pub has : Needed → (name : List ℕ) → Bool
has needed name = contains_text needed.names name

-- the names that pass the test were added
abbrev pub AreNeeded : (test : List ℕ → Bool) → (old new : Needed) → Type 0
AreNeeded test old new = (name : List ℕ) → has new name ≡ (has old name || test name)
