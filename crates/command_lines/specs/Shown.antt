-- A text in printable ASCII alone, as a terminal gets it.
use Rattle.std.specs.Prelude.{◌||◌, ◌==◌, ◌+◌, ◌-◌, ◌/◌, ◌%◌, ℕ, List, [], ◌∷◌, ◌++◌, if◌then◌else◌, nat_lt, codes}
use Rattle.std.specs.List.{flat_map}
use Rattle.command_lines.specs.Characters.{backslash, colon, digit_zero, left_bracket, letter_a, letter_x, number_sign}
use Rattle.command_lines.specs.Characters.{quotation_mark, space, tilde}

-- the hexadecimal digit of a number below 16
abbrev pub digit : ℕ → ℕ
digit number = if nat_lt number 10 then digit_zero + number else letter_a + (number - 10)

-- a byte by its number: `\x3a`
abbrev pub numbered : ℕ → List ℕ
numbered byte = backslash ∷ letter_x ∷ digit (byte / 16) ∷ digit (byte % 16) ∷ []

-- A byte of a text. A quotation mark and a backslash have a backslash in front. A byte that is no printable ASCII is
-- written by its number, `\x1b`, and so is `[`: GitHub's runner takes `##[..]` for a command wherever it stands in a line.
abbrev pub shown_byte : ℕ → List ℕ
shown_byte byte = if byte == quotation_mark || byte == backslash then backslash ∷ byte ∷ []
    else if nat_lt byte space || nat_lt tilde byte || byte == left_bracket then numbered byte
    else byte ∷ []

-- The first byte of a line. GitHub, "Workflow commands": a line is a command if it begins with `::`, or with blanks and `::`.
-- Azure Pipelines, "Logging commands": one that begins with `##[`.
abbrev pub first_byte : ℕ → List ℕ
first_byte byte = if byte == space || byte == number_sign || byte == colon then numbered byte else shown_byte byte

-- a text
abbrev pub shown : (text : List ℕ) → List ℕ
shown text = flat_map shown_byte text

-- a text that begins a line, which is written `""` if it is empty: `\x3a:error::a` for `::error::a`
abbrev pub shown_first : (text : List ℕ) → List ℕ
shown_first [] = codes "\"\""
shown_first (byte ∷ text) = first_byte byte ++ shown text

-- a text between quotation marks: `"a.json"`
abbrev pub quoted : (text : List ℕ) → List ℕ
quoted text = codes "\"" ++ (shown text ++ codes "\"")
