-- Line and column of an offset in a text. Both count from 0, and the column counts bytes.
use Rattle.std.specs.Prelude.{ℕ, Bool, List, ◌==◌, count_by, length, take}
use Rattle.std.specs.List.{after_last}
use Rattle.semver_texts.specs.Characters.{newline}

-- `true` if the byte is a newline
abbrev pub is_newline : ℕ → Bool
is_newline byte = byte == newline

-- the number of newlines before the offset
abbrev pub lines_before : List ℕ → ℕ → ℕ
lines_before text offset = count_by is_newline (take offset text)

-- the number of bytes between the last newline before the offset, or the start of the text, and the offset
abbrev pub column_at : List ℕ → ℕ → ℕ
column_at text offset = length (after_last is_newline (take offset text))
