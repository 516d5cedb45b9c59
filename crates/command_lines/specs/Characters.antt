-- The characters that have a meaning in what a terminal gets.
use Rattle.std.specs.Prelude.{ℕ, List, [], ◌∷◌}
pub use Rattle.std.specs.Char.Escape.{backslash}

-- `"`
abbrev pub quotation_mark : ℕ
quotation_mark = 34

-- `[`
abbrev pub left_bracket : ℕ
left_bracket = 91

-- `#`
abbrev pub number_sign : ℕ
number_sign = 35

abbrev pub colon : ℕ
colon = 58

-- the first printable character of ASCII
abbrev pub space : ℕ
space = 32

-- `~`, the last printable character of ASCII
abbrev pub tilde : ℕ
tilde = 126

abbrev pub digit_zero : ℕ
digit_zero = 48

abbrev pub letter_a : ℕ
letter_a = 97

abbrev pub letter_x : ℕ
letter_x = 120

-- the byte order mark in UTF-8
abbrev pub byte_order_mark : List ℕ
byte_order_mark = 239 ∷ 187 ∷ 191 ∷ []
