-- Worked examples: which version is found in a text, from the left and from the right, and in which texts none is
-- found.
use Rattle.std.proofs.Common.{◌≡◌, ◌+◌, ◌≤◌, ℕ, true, false, List, [], ◌∷◌, codes, length, refl, None}
use Rattle.std.proofs.Common.{inl, inr, subst, arith, lit≤}
use Rattle.npm_semver.specs.Coerce.{IsCoerced, IsNumberAt, IsStrictNumber, is_digit_at}
use Rattle.semver_texts.specs.Version.{VersionValue, release}
use Rattle.npm_semver.proofs.Versions.ChosenPieces.{first_found, last_found, none_coerced, not_coerced}
use Rattle.npm_semver.proofs.Versions.LastPieces.{three_to}
use Rattle.npm_semver.proofs.Versions.Pieces.{below_or_not, first_of, one_from, three_from}

-- ---- numbers of one digit

pub none_before : (text : List ℕ) (place : ℕ) → place + 1 ≡ 0 → is_digit_at text place ≡ false
none_before text place e = absurd (omega (arith, e))

after_other : (text : List ℕ) (start : ℕ) → is_digit_at text start ≡ false → (place : ℕ) → place + 1 ≡ start + 1
    → is_digit_at text place ≡ false
after_other text start h place e =
    let same : start ≡ place = omega (arith, e) in
    subst (λ (n : ℕ). is_digit_at text n ≡ false) same h

pub one_digit : (text : List ℕ) (start : ℕ) → start + 1 ≤ length text → is_digit_at text start ≡ true
    → ((place : ℕ) → place + 1 ≡ start → is_digit_at text place ≡ false) → is_digit_at text (start + 1) ≡ false
    → IsNumberAt text start (start + 1)
one_digit text start within here before after = record {
  within = within;
  some = omega arith;
  short = omega arith;
  digits = λ place from to.
      let same : start ≡ place = omega (arith, from, to) in
      subst (λ (n : ℕ). is_digit_at text n ≡ true) same here;
  before = before;
  after = after;
}

two_digits : (text : List ℕ) (start : ℕ) → start + 2 ≤ length text → is_digit_at text start ≡ true
    → is_digit_at text (start + 1) ≡ true
    → ((place : ℕ) → place + 1 ≡ start → is_digit_at text place ≡ false) → is_digit_at text (start + 2) ≡ false
    → IsNumberAt text start (start + 2)
two_digits text start within here next before after = record {
  within = within;
  some = omega arith;
  short = omega arith;
  digits = λ place from to. elim (below_or_not start place) [
    | inl above ↦
        let same : start + 1 ≡ place = omega (arith, above, to) in
        subst (λ (n : ℕ). is_digit_at text n ≡ true) same next
    | inr below ↦
        let same : start ≡ place = omega (arith, from, below) in
        subst (λ (n : ℕ). is_digit_at text n ≡ true) same here
  ];
  before = before;
  after = after;
}

pub one_there : IsStrictNumber (codes "1") 1
one_there = record { read = record { some = refl; digits = refl; value = refl; limit = lit≤ tt }; strict = refl }

two_there : IsStrictNumber (codes "2") 2
two_there = record { read = record { some = refl; digits = refl; value = refl; limit = lit≤ tt }; strict = refl }

three_there : IsStrictNumber (codes "3") 3
three_there = record { read = record { some = refl; digits = refl; value = refl; limit = lit≤ tt }; strict = refl }

four_there : IsStrictNumber (codes "4") 4
four_there = record { read = record { some = refl; digits = refl; value = refl; limit = lit≤ tt }; strict = refl }

-- ---- three numbers of four: the first ones from the left, the last ones from the right

first_at : IsNumberAt (codes "1.2.3.4") 0 1
first_at = one_digit (codes "1.2.3.4") 0 (lit≤ tt) refl (none_before (codes "1.2.3.4")) refl

second_at : IsNumberAt (codes "1.2.3.4") 2 3
second_at = one_digit (codes "1.2.3.4") 2 (lit≤ tt) refl (after_other (codes "1.2.3.4") 1 refl) refl

third_at : IsNumberAt (codes "1.2.3.4") 4 5
third_at = one_digit (codes "1.2.3.4") 4 (lit≤ tt) refl (after_other (codes "1.2.3.4") 3 refl) refl

fourth_at : IsNumberAt (codes "1.2.3.4") 6 7
fourth_at = one_digit (codes "1.2.3.4") 6 (lit≤ tt) refl (after_other (codes "1.2.3.4") 5 refl) refl

from_left : IsCoerced false (codes "1.2.3.4") (release 1 2 3)
from_left =
    let found = first_found (codes "1.2.3.4") 0 1 5 (codes "1" ∷ codes "2" ∷ codes "3" ∷ [])
    (record { number = first_at; after = omega arith; first = λ start end from h. omega arith })
    (three_from (codes "1.2.3.4") 0 1 3 5 first_at refl second_at refl third_at) in
    record {
      start = found.0;
      end = found.1;
      numbers = codes "1" ∷ codes "2" ∷ codes "3" ∷ [];
      chosen = found.2;
      version = (1, 2, 3, one_there, two_there, three_there, refl);
    }

from_right : IsCoerced true (codes "1.2.3.4") (release 2 3 4)
from_right =
    let found = last_found (codes "1.2.3.4") 6 7 (codes "2" ∷ codes "3" ∷ codes "4" ∷ [])
    (record { number = fourth_at; last = λ start end h. h.within })
    (three_to (codes "1.2.3.4") 2 3 4 5 6 7 refl refl second_at refl third_at refl fourth_at) in
    record {
      start = found.0;
      end = found.1;
      numbers = codes "2" ∷ codes "3" ∷ codes "4" ∷ [];
      chosen = found.2;
      version = (2, 3, 4, two_there, three_there, four_there, refl);
    }

-- ---- a text without digits, and a number with a zero in front

no_number : (start end : ℕ) → ¬ IsNumberAt (codes "a") start end
no_number start end h =
    let within : end ≤ 1 = h.within in
    let here : start ≡ 0 = omega (arith, within, h.some) in
    let digit : is_digit_at (codes "a") 0 ≡ true =
    subst (λ (n : ℕ). is_digit_at (codes "a") n ≡ true) here (h.digits start (omega arith) h.some) in
    cc digit

letters_none : (v : VersionValue) → ¬ IsCoerced false (codes "a") v
letters_none =
    none_coerced false (codes "a") (λ start end numbers h.
    let first = first_of (codes "a") start end numbers h in
    no_number start first.0 first.1)

zero_strict : (number : ℕ) → ¬ IsStrictNumber (codes "01") number
zero_strict number h = cc h.strict

zero_at : IsNumberAt (codes "01") 0 2
zero_at = two_digits (codes "01") 0 (lit≤ tt) refl refl (none_before (codes "01")) refl

zero_none : (v : VersionValue) → ¬ IsCoerced false (codes "01") v
zero_none =
    let found = first_found (codes "01") 0 2 2 (codes "01" ∷ [])
    (record { number = zero_at; after = omega arith; first = λ start end from h. omega arith })
    (one_from (codes "01") 0 2 zero_at (λ end point h. cc point)) in
    not_coerced false (codes "01") found.0 found.1 (codes "01" ∷ []) None found.2 (λ v h. zero_strict h.0 h.1)
