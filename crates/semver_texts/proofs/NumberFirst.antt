-- A number that is the first identifier of a list.
use Rattle.semver_texts.specs.Lemmas.Texts.ListedTexts.{first-part}
use Rattle.std.proofs.Common.{◌≡◌, ◌<◌, ◌-◌, ◌≤◌, ℕ, List, [], ◌∷◌, ◌++◌, Ok, sym}
use Rattle.std.proofs.Common.{arith, drop, get_or, length, length-append, take}
use Rattle.std.proofs.lemmas.List.{take_rest}
use Rattle.semver_texts.specs.Characters.{AreAll, BeginsWithNo, dot, is_digit, is_identifier_character}
use Rattle.semver_texts.specs.IdentifierText.{IsListed}
use Rattle.semver_texts.specs.Private.ListedViews.{IsNumberSplit}
use Rattle.semver_texts.specs.Reading.{prefix_of, read_number, rest_of}
use Rattle.semver_texts.specs.Lemmas.Texts.DecimalReading.{characters-of_digits}
use Rattle.semver_texts.specs.Lemmas.Texts.ListedTexts.{first-before}
use Rattle.semver_texts.specs.Lemmas.Texts.NumberReading.{TakesNumber, number-takes}
use Rattle.semver_texts.specs.Lemmas.Texts.Prefixes.{prefix_of-again, rest_of-again}
use Rattle.semver_texts.specs.Lemmas.Texts.Prefixes.{begins-some}

-- such digits end where an identifier does
record EndsThere (text digits left : List ℕ) : Type 0 where
  pub prefix : prefix_of is_identifier_character text ≡ digits
  pub rest : rest_of is_identifier_character text ≡ left

digits-end : (text digits left : List ℕ) → text ≡ digits ++ left → AreAll is_digit digits
    → BeginsWithNo is_identifier_character left → EndsThere text digits left
digits-end text digits left whole all ends = grind (arith, characters-of_digits, prefix_of-again, rest_of-again)

longer : (text left : List ℕ) (number : ℕ) (t : TakesNumber text number left) → length left < length text
longer text left number t = grind (arith, begins-some, length-append)

-- if it is the last
pub number-alone : (text left : List ℕ) (number : ℕ) → IsListed text → Ok (number, left) ≡ read_number text
    → length left < 1 → IsNumberSplit text number left
number-alone text left number listed read none =
    grind (arith, number-takes text number left (sym read), digits-end text, first-part)

-- if others follow it after a dot
pub number-before : (text left : List ℕ) (number : ℕ) → IsListed text → Ok (number, left) ≡ read_number text
    → 1 ≤ length left → get_or left 0 0 ≡ dot → IsNumberSplit text number (take (length left - 1) (drop 1 left))
number-before text [] number listed read more here = absurd (omega arith)
number-before text (b ∷ left) number listed read more here =
    let t = number-takes text number (b ∷ left) (sym read) in
    grind (
      arith,
      digits-end text t.digits (b ∷ left),
      longer text (b ∷ left) number t,
      take_rest (b ∷ left) 1,
      first-before text left b listed,
    )
