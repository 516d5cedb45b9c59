-- The keys of `overrides`.
use Rattle.std.specs.Prelude.{◌≡◌, ◌≢◌, ◌⊎◌, ◌∷◌, ℕ, List}

-- the key without an `@` at its start
abbrev pub IsWithoutAtSign : (key rest : List ℕ) → Type 0
IsWithoutAtSign key rest = (key ≡ 64 ∷ rest) ⊎ ((rest ≡ key) × ((more : List ℕ) → key ≢ 64 ∷ more))
