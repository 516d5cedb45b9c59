-- Two identifiers that are equal up to bytes that differ: these bytes decide their order.
use Rattle.std.proofs.Common.{◌≡◌, ◌<◌, ◌+◌, ◌*◌, ◌≤◌, ℕ, true, false, List, [], ◌∷◌, ◌++◌, refl, sym, ap}
use Rattle.std.proofs.Common.{◌∙◌, arith}
use Rattle.std.proofs.lemmas.Bool.{and_from, and_left, and_right, cases_Bool}
use Rattle.std.proofs.lemmas.Bool.{ltb-false, ltb-true}
use Rattle.std.proofs.lemmas.Bool.Decides.{nat_tests}
use Rattle.std.proofs.lemmas.Cmp.{ranked}
use Rattle.std.proofs.lemmas.Int.Digits.{digits_value_push}
use Rattle.std.proofs.lemmas.List.Folds.{list_all-append}
use Rattle.std.specs.Char.{digit_value}
use Rattle.std.specs.Cmp.{nat_cmp_is, nat_cmp_total}
use Rattle.std.specs.Cmp.Lexicographic.{slice_cmp}
use Rattle.std.specs.List.{list_all}
use Rattle.std.specs.Ordering.{MatchOrdering, nat_cmp, ordering_then}
use Rattle.std.specs.Prelude.{◌==◌}
use Rattle.std.specs.Str.Parse.{digits_value}
use Rattle.std.specs.declared.cmp.Ordering.{Ordering}
use Rattle.std.specs.declared.cmp.Ordering.TheVariants.{Less, Equal, Greater}
use Rattle.semver_texts.specs.Characters.{is_digit}
use Rattle.semver_texts.specs.Comparison.{identifier_cmp}
use Rattle.semver_texts.specs.IdentifierText.{identifier_of}
use Rattle.semver_texts.specs.IdentifierValue.{alphanumeric}
use Rattle.semver_texts.specs.Lemmas.Order.{cmp-after}
use Rattle.semver_texts.specs.Lemmas.Texts.Digits.{digit-value}

-- bytes that differ decide, whatever follows
pub first-decides : (c d : ℕ) (o : Ordering) → (c == d) ≡ false → ordering_then (nat_cmp c d) o ≡ nat_cmp c d
first-decides c d o apart = grind arith

-- texts that are equal up to two bytes that differ
texts-part : (p f g : List ℕ) (c d : ℕ) → (c == d) ≡ false
    → slice_cmp nat_cmp (p ++ (c ∷ f)) (p ++ (d ∷ g)) ≡ nat_cmp c d
texts-part p f g c d apart = grind (arith, cmp-after, nat_cmp_total, first-decides, slice_cmp)

-- an identifier with a byte that is no digit is a text
pub not-digits : (p f : List ℕ) (c : ℕ) → is_digit c ≡ false → list_all is_digit (p ++ (c ∷ f)) ≡ false
not-digits p f c none = grind (arith, list_all-append, and_right)

pub text-value : (text : List ℕ) → list_all is_digit text ≡ false → identifier_of text ≡ alphanumeric text
text-value text none = rw none refl

-- numbers are ordered as their last digits are, if the digits before are equal
pub first-digit : (c : ℕ) → is_digit c ≡ true → 48 ≤ c
first-digit c digit = grind (arith, nat_tests)

numbers-part : (n c d : ℕ) → is_digit c ≡ true → is_digit d ≡ true
    → nat_cmp (n * 10 + digit_value c) (n * 10 + digit_value d) ≡ nat_cmp c d
numbers-part n c d digit digit_too = sym (nat_cmp_is _ _ (nat_cmp c d) (agrees (nat_cmp c d) (ranked c d _ refl)))
  where
    agrees : (r : Ordering) → MatchOrdering r (c < d) (c ≡ d) (d < c)
        → MatchOrdering r (n * 10 + digit_value c < n * 10 + digit_value d)
        (n * 10 + digit_value c ≡ n * 10 + digit_value d) (n * 10 + digit_value d < n * 10 + digit_value c)
    agrees Less h =
        omega (arith, digit-value c digit, digit-value d digit_too, first-digit c digit, first-digit d digit_too)
    agrees Equal h = ap (λ (k : ℕ). n * 10 + digit_value k) h
    agrees Greater h =
        omega (arith, digit-value c digit, digit-value d digit_too, first-digit c digit, first-digit d digit_too)

all-last : (p : List ℕ) (c : ℕ) → list_all is_digit p ≡ true → is_digit c ≡ true
    → list_all is_digit (p ++ (c ∷ [])) ≡ true
all-last p c all digit = grind (arith, list_all-append, and_from)

not-all : (p f : List ℕ) → list_all is_digit p ≡ false → list_all is_digit (p ++ f) ≡ false
not-all p f none = list_all-append is_digit p f ∙ and_left (list_all is_digit p) _ none

-- identifiers that differ in their last digits alone
pub digits-part : (p : List ℕ) (c d : ℕ) → is_digit c ≡ true → is_digit d ≡ true → (c == d) ≡ false
    → identifier_cmp (identifier_of (p ++ (c ∷ []))) (identifier_of (p ++ (d ∷ []))) ≡ nat_cmp c d
digits-part p c d digit digit_too apart = grind (
  arith,
  cases_Bool (list_all is_digit p),
  text-value,
  not-all,
  all-last,
  nat_cmp_is,
  ltb-true,
  ltb-false,
  slice_cmp nat_cmp (p ++ (c ∷ [])) (p ++ (d ∷ [])),
  texts-part,
  digits_value_push,
  numbers-part (digits_value 10 p) c d digit digit_too,
)
