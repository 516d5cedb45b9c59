-- Bytes up to their first newline bytes.
use Rattle.std.specs.Prelude.{◌≡◌, ◌==◌, ℕ, List, [], ◌∷◌, ◌++◌, false, ⊤}
use Rattle.std.specs.Str.Lines.{strip_carriage_return}
use Rattle.semver_texts.specs.Characters.{newline}

-- the bytes contain no newline byte
abbrev pub HasNoNewline : List ℕ → Type 0
HasNoNewline [] = ⊤
HasNoNewline (b ∷ bytes) = ((b == newline) ≡ false) × HasNoNewline bytes

-- The line is what comes before the first newline byte, and the rest is what comes after it.
pub record BeginsWithLine (bytes line rest : List ℕ) : Type 0 where
  pub one_line : HasNoNewline line
  pub split : bytes ≡ line ++ (newline ∷ rest)

-- The bytes begin with a range line and a version line, each with its newline byte. The version line is given without
-- its carriage return. The rest comes after them.
pub record BeginsWithPair (bytes range version rest : List ℕ) : Type 0 where
  pub others : List ℕ
  pub line : List ℕ
  pub first : BeginsWithLine bytes range others
  pub second : BeginsWithLine others line rest
  pub stripped : version ≡ strip_carriage_return line
