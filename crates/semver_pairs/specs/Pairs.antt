-- The pairs of lines that get an output line, and which of them were completely read.
use Rattle.std.specs.Prelude.{ℕ, List, [], ◌∷◌, ◌++◌, Bool, true, false}
use Rattle.semver_pairs.specs.Lines.{divided, ended_lines, rest_line}

-- a range line and a version line, or a last line without a version line
pub data Pair : Type 0 where
  both : (range version : List ℕ) → Pair
  lone : (line : List ℕ) → Pair

-- The lines that were completely read: each line whose newline byte was read and, at the end of the input, the rest.
abbrev pub lines_read : (is_end : Bool) → (bytes : List ℕ) → List (List ℕ)
lines_read false bytes = ended_lines bytes
lines_read true bytes = ended_lines bytes ++ rest_line (divided bytes).rest

-- The lines, two at a time. A single last line is a pair only at the end of the input.
abbrev pub pairs_of : (is_end : Bool) → (lines : List (List ℕ)) → List Pair
pairs_of is_end [] = []
pairs_of false (line ∷ []) = []
pairs_of true (line ∷ []) = lone line ∷ []
pairs_of is_end (range ∷ version ∷ lines) = both range version ∷ pairs_of is_end lines

-- The pairs that were completely read from these bytes and, if `is_end`, from the end of the input after them.
abbrev pub pairs_read : (is_end : Bool) → (bytes : List ℕ) → List Pair
pairs_read is_end bytes = pairs_of is_end (lines_read is_end bytes)
