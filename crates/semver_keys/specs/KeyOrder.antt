-- The order of keys: that of their bytes, as each database has it. The first byte that differs decides, and a key is
-- above each of its beginnings.
use Rattle.std.specs.Prelude.{◌≡◌, ◌⊎◌, ℕ, List}
use Rattle.std.specs.Ordering.{nat_cmp}
use Rattle.std.specs.Cmp.Lexicographic.{slice_cmp}
use Rattle.std.specs.declared.cmp.Ordering.{Ordering}
use Rattle.std.specs.declared.cmp.Ordering.TheVariants.{Less, Equal}

-- how two keys compare: 1 and 2 is below 1 and 3, and 1 is below 1 and 0
abbrev pub key_cmp : List ℕ → List ℕ → Ordering
key_cmp = slice_cmp nat_cmp

-- the key is below the other
abbrev pub IsKeyBelow : List ℕ → List ℕ → Type 0
IsKeyBelow key other = key_cmp key other ≡ Less

-- the key is below the other, or the same
abbrev pub IsKeyAtMost : List ℕ → List ℕ → Type 0
IsKeyAtMost key other = (key_cmp key other ≡ Less) ⊎ (key_cmp key other ≡ Equal)
