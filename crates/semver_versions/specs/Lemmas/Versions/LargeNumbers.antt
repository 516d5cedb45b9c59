-- The result of std's `parse` for the digits of a number that is too large.
use Rattle.std.proofs.Common.{arith}
use Rattle.std.proofs.Common.{◌≡◌, ℕ, List, Ok, Err}
use Rattle.std.proofs.lemmas.Bool.{lt-ltb, ltb-true}
use Rattle.std.proofs.lemmas.Str.Parse.{parse_digits}
use Rattle.std.specs.Prelude.{Result}
use Rattle.std.specs.Str.Parse.{ParsesUnsigned}
use Rattle.std.specs.declared.num.ParseIntError.{ParseIntError}
use Rattle.semver_texts.specs.Characters.{AreAll, BeginsWith, is_digit}
use Rattle.semver_texts.specs.NumberText.{number_of}
use Rattle.semver_texts.specs.Lemmas.Texts.Digits.{digits-numerals}
use Rattle.semver_texts.specs.Lemmas.Texts.Prefixes.{begins-some}
use Rattle.semver_versions.specs.Error.{max_int, parse_int}
use Rattle.semver_versions.specs.Fault.{too_large}

-- the result of `parse` for digits
pub large-ok : (s : List ℕ) (r : Result ℕ ParseIntError) (value : ℕ) → ParsesUnsigned 64 10 s r → AreAll is_digit s
    → r ≡ Ok value → max_int value ≡ too_large (number_of s)
large-ok s r value h all e = grind (arith, parse_digits, digits-numerals, lt-ltb)

pub large-err : (s : List ℕ) (r : Result ℕ ParseIntError) (error : ParseIntError) → ParsesUnsigned 64 10 s r
    → AreAll is_digit s → BeginsWith is_digit s → r ≡ Err error → parse_int ≡ too_large (number_of s)
large-err s r error h all some e = grind (arith, parse_digits, digits-numerals, begins-some, ltb-true)
