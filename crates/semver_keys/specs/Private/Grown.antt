-- A buffer that bytes were added to, by a call that failed before the last of them.
use Rattle.std.specs.Prelude.{◌≡◌, ℕ, List, length, take}

-- the new bytes begin with the old ones
unfoldable pub IsGrown : List ℕ → List ℕ → Type 0
IsGrown old new = take (length old) new ≡ old
