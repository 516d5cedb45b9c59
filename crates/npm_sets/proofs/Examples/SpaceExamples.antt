-- Worked examples: which characters outside ASCII are white space. Each row is computed over the definitions.
use Rattle.std.proofs.Common.{◌≡◌, [], ◌∷◌, map, refl}
use Rattle.npm_sets.specs.Spaces.{plain}

-- a no-break space, an ideographic space and a byte order mark; not a tab, `1`, U+0085, U+200B and U+180E
rows : map plain (160 ∷ 12288 ∷ 65279 ∷ 9 ∷ 49 ∷ 133 ∷ 8203 ∷ 6158 ∷ [])
    ≡ 32 ∷ 32 ∷ 32 ∷ 9 ∷ 49 ∷ 133 ∷ 8203 ∷ 6158 ∷ []
rows = refl

-- the first and the last of a row of spaces of different width, and what stands beside them
ends : map plain (8191 ∷ 8192 ∷ 8202 ∷ 8203 ∷ []) ≡ 8191 ∷ 32 ∷ 32 ∷ 8203 ∷ []
ends = refl
