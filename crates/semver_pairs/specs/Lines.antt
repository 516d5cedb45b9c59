-- The lines of what the program reads.
use Rattle.std.specs.Prelude.{ℕ, ◌==◌, if◌then◌else◌, List, [], ◌∷◌, ◌++◌, map}
use Rattle.std.specs.Str.Lines.{strip_carriage_return}
use Rattle.semver_texts.specs.Characters.{newline}

-- bytes divided at the newline bytes: the lines that end with one, and the rest after the last one, which can be empty
pub record Lines : Type 0 where
  pub ended : List (List ℕ)
  pub rest : List ℕ

-- one more line, as the first
abbrev pub with_line : List ℕ → Lines → Lines
with_line line lines = record { ended = line ∷ lines.ended; rest = lines.rest }

-- one more byte, as the first of the first line, or of the rest if no line is ended
abbrev pub with_byte : ℕ → (ended : List (List ℕ)) → (rest : List ℕ) → Lines
with_byte b [] rest = record { ended = []; rest = b ∷ rest }
with_byte b (line ∷ lines) rest = record { ended = (b ∷ line) ∷ lines; rest = rest }

-- Each newline byte ends a line, and is no part of it.
abbrev pub divided : List ℕ → Lines
divided [] = record { ended = []; rest = [] }
divided (b ∷ bytes) = if b == newline then with_line [] (divided bytes) else
    with_byte b (divided bytes).ended (divided bytes).rest

-- the ended lines, each with a newline byte after it, and then the rest
abbrev pub joined : (ended : List (List ℕ)) → (rest : List ℕ) → List ℕ
joined [] rest = rest
joined (line ∷ lines) rest = line ++ (newline ∷ joined lines rest)

-- the lines that end with a newline byte, each without one carriage return just before that byte
abbrev pub ended_lines : List ℕ → List (List ℕ)
ended_lines bytes = map strip_carriage_return (divided bytes).ended

-- the rest is a line too unless it is empty, and keeps a carriage return at its end
abbrev pub rest_line : List ℕ → List (List ℕ)
rest_line [] = []
rest_line (b ∷ rest) = (b ∷ rest) ∷ []
