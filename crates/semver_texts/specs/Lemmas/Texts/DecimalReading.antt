-- The decimal digits of a number as a text: they write that number, and as an identifier they have its value.
use Rattle.std.proofs.Common.{◌≡◌, ◌<◌, ◌^◌, ℕ, Bool, List, [], ◌∷◌, length, arith, refl}
use Rattle.std.proofs.lemmas.Bool.{and_from, and_parts, lt-ltb}
use Rattle.std.proofs.lemmas.Fmt.{decimal_nonempty, digits_decimal, digits_value-decimal}
use Rattle.std.specs.Fmt.{decimal}
use Rattle.semver_texts.specs.Characters.{AreAll, BeginsWith, is_digit, is_identifier_character}
use Rattle.semver_texts.specs.IdentifierText.{IsIdentifierText, identifier_of}
use Rattle.semver_texts.specs.IdentifierValue.{numeric}
use Rattle.semver_texts.specs.NumberText.{number_of}
use Rattle.semver_texts.specs.Lemmas.Texts.Digits.{digits-numerals}

-- a text of such characters that is not empty begins with one
pub some-begins : (test : ℕ → Bool) (text : List ℕ) → 0 < length text → AreAll test text → BeginsWith test text
some-begins test text some all = grind arith

-- the decimal digits of a number of 64 bits
module _ (n : ℕ) (small : n < 2 ^ 64) where
  pub decimal-digits : AreAll is_digit (decimal n)
  decimal-digits = digits_decimal digits-numerals n small

  pub decimal-value : number_of (decimal n) ≡ n
  decimal-value = digits_value-decimal digits-numerals n small

  pub decimal-begins : BeginsWith is_digit (decimal n)
  decimal-begins = some-begins is_digit (decimal n) (decimal_nonempty n small) decimal-digits

pub characters-of_digits : (text : List ℕ) → AreAll is_digit text → AreAll is_identifier_character text
characters-of_digits [] all = refl
characters-of_digits (b ∷ text) all = grind (arith, characters-of_digits text, and_parts, and_from)

-- they are an identifier text of the number
pub decimal-identifier : (n : ℕ) → n < 2 ^ 64
    → IsIdentifierText (decimal n) × (identifier_of (decimal n) ≡ numeric n)
decimal-identifier n small =
    grind (arith, decimal-digits, characters-of_digits, lt-ltb, some-begins, decimal_nonempty, decimal-value)
