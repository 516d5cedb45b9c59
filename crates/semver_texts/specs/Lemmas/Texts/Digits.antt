-- Numbers, as a loop goes over their digits.
use Rattle.std.proofs.Common.{◌≡◌, ◌+◌, ◌-◌, ◌*◌, ◌<◌, ◌≤◌, ◌^◌, ℕ, true, List, [], ◌∷◌, length, Option}
use Rattle.std.proofs.Common.{Some, None, arith, rules}
use Rattle.std.proofs.lemmas.Bool.{and_from, and_right, cond-false, cond-true, le-ltb, lt-leb, ltb-false}
use Rattle.std.proofs.lemmas.Str.Parse.{IsNumeralModel, numerals_by_value}
use Rattle.std.proofs.lemmas.Bool.Decides.{nat_tests}
use Rattle.std.specs.Char.{digit_value}
use Rattle.std.specs.List.{list_all}
use Rattle.std.specs.Prelude.{◌&&◌, nat_lt, if◌then◌else◌}
use Rattle.std.specs.Str.Parse.{digits_value_after}
use Rattle.semver_texts.specs.declared.TheConstants.{MAX_SAFE_INTEGER}
use Rattle.semver_texts.specs.Characters.{AreAll, BeginsWith, is_digit}
use Rattle.semver_texts.specs.NumberText.{number_of}
use Rattle.semver_texts.specs.Reading.{prefix_of, read_number}
use Rattle.semver_texts.specs.declared.parse.fault.Fault.TheVariants.{TooLarge}
use Rattle.semver_texts.specs.Lemmas.Texts.Prefixes.{with-begins}
use Rattle.semver_texts.specs.Lemmas.Texts.NumberReading.{refusal}

-- the value of a digit
pub digit-value : (b : ℕ) → is_digit b ≡ true → digit_value b ≡ b - 48
digit-value b h = grind (arith, nat_tests)

-- more digits write no less
more-digits : (n : ℕ) (ds : List ℕ) → n ≤ digits_value_after 10 n ds
more-digits n [] = omega arith
more-digits n (d ∷ ds) =
    let more = more-digits (n * 10 + digit_value d) ds in
    omega arith

-- one digit more makes the number at the start too large
pub read_number-large : (s : List ℕ) (n b : ℕ) (ds : List ℕ) → BeginsWith is_digit s → is_digit b ≡ true
    → MAX_SAFE_INTEGER < n * 10 + (b - 48)
    → digits_value_after 10 n (prefix_of is_digit (b ∷ ds)) ≡ number_of (prefix_of is_digit s)
    → refusal {A = ℕ × List ℕ} (TooLarge (length s)) ≡ read_number s
unfolding read_number prefix_of
read_number-large s n b ds some digit above value = grind (arith, with-begins, lt-leb, digit-value, more-digits)

-- digits as `parse` reads them
pub digits-numerals : IsNumeralModel (AreAll is_digit) number_of
digits-numerals = numerals_by_value (AreAll is_digit) (search rules)

-- the number that a text of digits writes, where it has at most 64 bits
abbrev Numeric : List ℕ → Option ℕ
Numeric s = if list_all is_digit s && nat_lt (number_of s) (2 ^ 64) then Some (number_of s) else None

-- the number n with one digit more, where it has at most 64 bits
abbrev OneMore : ℕ → ℕ → Option ℕ
OneMore n b = if is_digit b && nat_lt (n * 10 + (b - 48)) (2 ^ 64) then Some (n * 10 + (b - 48)) else None

-- the text of which this is no digit, or one too many, writes no such number
pub none-numeric : (s : List ℕ) (n b : ℕ) (ds : List ℕ) → None ≡ OneMore n b
    → list_all is_digit (b ∷ ds) ≡ list_all is_digit s → digits_value_after 10 n (b ∷ ds) ≡ number_of s
    → None ≡ Numeric s
none-numeric s n b ds none all value =
    grind (arith, cond-true, and_from, ltb-false, le-ltb, cond-false, and_right, digit-value, more-digits)
