-- A number without a zero in front is what the reader of numbers reads of the whole text.
use Rattle.std.proofs.Common.{◌≡◌, ◌<◌, ◌≤◌, ℕ, true, false, List, [], ◌∷◌, length, Ok, Err}
use Rattle.std.proofs.Common.{append-nil, arith}
use Rattle.npm_semver.specs.Coerce.{IsStrictNumber}
use Rattle.semver_texts.specs.NumberText.{IsNumberText}
use Rattle.semver_texts.specs.Reading.{read_number}
use Rattle.npm_semver.specs.StrictVersionText.{has_zero_in_front, is_strict_number}
use Rattle.semver_texts.specs.declared.parse.fault.Fault.{Fault}
use Rattle.semver_texts.specs.Lemmas.Public.{answer, number-again, number-takes, ok-value, refusal}

pub is_strict : (text : List ℕ) (number : ℕ) → IsNumberText text number → has_zero_in_front text ≡ false
    → is_strict_number text ≡ true
is_strict text number read zero4 = grind arith

pub strict_read : (text rest : List ℕ) (number : ℕ) → read_number text ≡ Ok (number, rest) → length rest < 1
    → has_zero_in_front text ≡ false → IsStrictNumber text number
strict_read text [] number h none zero = grind (arith, number-takes text number [] h, append-nil, is_strict)
strict_read text (b ∷ rest) number h none zero = absurd (omega arith)

-- it would be read
whole_read : (text : List ℕ) (number : ℕ) → IsStrictNumber text number → read_number text ≡ Ok (number, [])
whole_read text number h = grind (arith, append-nil text, number-again text [] number h.read tt)

pub strict_left : (text rest : List ℕ) (number other : ℕ) → read_number text ≡ Ok (other, rest) → 1 ≤ length rest
    → IsStrictNumber text number → ⊥
strict_left text rest number other h some strict = grind (arith, answer, whole_read, ok-value)

pub strict_refused : (text : List ℕ) (number : ℕ) (fault : Fault) → read_number text ≡ Err fault
    → IsStrictNumber text number → ⊥
strict_refused text number fault h strict = grind (arith, refusal, answer, whole_read)
