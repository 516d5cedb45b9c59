-- What the private readers of alternatives compute: a piece, and what follows the `||` after it.
use Rattle.std.specs.Prelude.{ℕ, ◌==◌, ◌&&◌, if◌then◌else◌, List, [], ◌∷◌, ◌++◌, Option, Some, None}
use Rattle.std.specs.Borrow.{Bor}
use Rattle.semver_texts.specs.Characters.{bar}

-- a piece and what follows the `||` after it, or none
abbrev pub Piece : Type 0
Piece = List ℕ × Option (List ℕ)

-- what follows `||`, if the text begins with it
abbrev pub bars_after : List ℕ → Option (List ℕ)
bars_after [] = None
bars_after (b ∷ []) = None
bars_after (b ∷ c ∷ rest) = if (b == bar) && (c == bar) then Some rest else None

-- a piece with more before it
abbrev pub behind : List ℕ → Piece → Piece
behind before p = (before ++ p.0, p.1)

-- an empty piece if the text begins with `||`, else one character more than the piece from the next place on
abbrev pub piece_from : ℕ → Option (List ℕ) → Piece → Piece
piece_from b None p = (b ∷ p.0, p.1)
piece_from b (Some after) p = ([], Some after)

-- the piece before the first `||`
unfoldable pub piece_at : List ℕ → Piece
piece_at [] = ([], None)
piece_at (b ∷ rest) = piece_from b (bars_after (b ∷ rest)) (piece_at rest)

-- ---- the results of the code, as contracts see them

abbrev pub some_seen : Option (Bor (List ℕ)) → Option (List ℕ)
some_seen None = None
some_seen (Some r) = Some r.now

abbrev pub piece_seen : Bor (List ℕ) × Option (Bor (List ℕ)) → Piece
piece_seen r = (r.0.now, some_seen r.1)
