-- How a text is written to the caller's array.
use Rattle.std.specs.Prelude.{◌≡◌, ◌⊎◌, ℕ, ◌<◌, ◌≤◌, List, ◌++◌, length, drop}

-- the count is the length of the text. If the text fits, it is at the start of the array and the other bytes stay; if
-- not, all bytes stay
pub record IsPut (text old new : List ℕ) (count : ℕ) : Type 0 where
  pub counted : count ≡ length text
  pub fits : length text ≤ length old → new ≡ text ++ drop (length text) old
  pub kept : length old < length text → new ≡ old

-- the text was put, or an allocation failed: then the count is 0 and all bytes stay
abbrev pub IsPrinted : (text old new : List ℕ) → ℕ → Type 0
IsPrinted text old new count = IsPut text old new count ⊎ ((count ≡ 0) × (new ≡ old))
