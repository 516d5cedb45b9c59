-- The characters of versions and ranges. A character outside ASCII is in none of these classes.
use Rattle.std.specs.Prelude.{◌≡◌, ℕ, Bool, true, false, ◌==◌, ◌||◌, List, [], ◌∷◌, if◌then◌else◌}
use Rattle.std.specs.Char.{is_ascii_alphanumeric, is_ascii_digit}
use Rattle.std.specs.List.{list_all}

-- between the parts of a triple, and between identifiers
abbrev pub dot : ℕ
dot = 46

-- before a prerelease, and between the sides of a hyphen range
abbrev pub hyphen : ℕ
hyphen = 45

-- before a build
abbrev pub plus : ℕ
plus = 43

-- before a tilde range
abbrev pub tilde : ℕ
tilde = 126

-- before a caret range
abbrev pub caret : ℕ
caret = 94

-- two of them between the alternatives of a range
abbrev pub bar : ℕ
bar = 124

-- `>`
abbrev pub greater_sign : ℕ
greater_sign = 62

-- `<`
abbrev pub less_sign : ℕ
less_sign = 60

-- `=`
abbrev pub equal_sign : ℕ
equal_sign = 61

-- `*`, for any number
abbrev pub star : ℕ
star = 42

-- `0`
abbrev pub digit_zero : ℕ
digit_zero = 48

abbrev pub letter_v : ℕ
letter_v = 118

abbrev pub capital_v : ℕ
capital_v = 86

abbrev pub letter_x : ℕ
letter_x = 120

abbrev pub capital_x : ℕ
capital_x = 88

abbrev pub space : ℕ
space = 32

abbrev pub tab : ℕ
tab = 9

abbrev pub newline : ℕ
newline = 10

abbrev pub carriage_return : ℕ
carriage_return = 13

-- a space or a tab; a newline is no blank
abbrev pub is_blank : ℕ → Bool
is_blank b = (b == space) || (b == tab)

-- `0` to `9`
abbrev pub is_digit : ℕ → Bool
is_digit b = is_ascii_digit b

-- an ASCII letter, a digit or `-`: SemVer 2.0.0, section 9
abbrev pub is_identifier_character : ℕ → Bool
is_identifier_character b = is_ascii_alphanumeric b || (b == hyphen)

-- `x`, `X` or `*`, each of which means any number
abbrev pub is_x : ℕ → Bool
is_x b = (b == letter_x) || (b == capital_x) || (b == star)

-- `v` or `V`, which a version can begin with
abbrev pub is_version_mark : ℕ → Bool
is_version_mark b = (b == letter_v) || (b == capital_v)

-- `v`, which a partial can begin with
abbrev pub is_partial_mark : ℕ → Bool
is_partial_mark b = b == letter_v

-- each character of the text passes the test
abbrev pub AreAll : (ℕ → Bool) → List ℕ → Type 0
AreAll test text = list_all test text ≡ true

-- the text is empty, or its first character does not pass the test
abbrev pub BeginsWithNo : (ℕ → Bool) → List ℕ → Type 0
BeginsWithNo test [] = Unit {0}
BeginsWithNo test (b ∷ rest) = test b ≡ false

-- the text has a first character, and it passes the test
abbrev pub BeginsWith : (ℕ → Bool) → List ℕ → Type 0
BeginsWith test [] = ⊥
BeginsWith test (b ∷ rest) = test b ≡ true

-- the mark that a text begins with, or nothing: `v` of `v1.2.3`
abbrev pub mark_of : (ℕ → Bool) → List ℕ → List ℕ
mark_of is_mark [] = []
mark_of is_mark (b ∷ rest) = if is_mark b then b ∷ [] else []

-- one or more blanks
pub record AreBlanks (text : List ℕ) : Type 0 where
  pub some : BeginsWith is_blank text
  pub all : AreAll is_blank text

-- nothing follows, or a blank does
abbrev pub IsCleanEnd : List ℕ → Type 0
IsCleanEnd [] = Unit {0}
IsCleanEnd (b ∷ rest) = is_blank b ≡ true
