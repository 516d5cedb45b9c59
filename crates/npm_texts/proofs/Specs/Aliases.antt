-- `npm:` with letters of either case, and what follows it.
use Rattle.std.proofs.Common.{◌≡◌, ◌∙◌, ◌==◌, ◌||◌, ◌∷◌, ◌++◌, ℕ, List, [], Bool, true, false, Option, Some, None, ap, arith}
use Rattle.std.proofs.Common.{codes, if◌then◌else◌, inl, inr, map, option_and_then, refl, sym}
use Rattle.std.proofs.lemmas.Bool.{cases_Bool}
use Rattle.std.proofs.lemmas.Bool.Decides.{nat_tests}
use Rattle.std.proofs.lemmas.Option.{same_Some}
use Rattle.std.specs.Char.{to_ascii_lowercase}
use Rattle.npm_texts.specs.RangeText.{alias_target, past_either}
use Rattle.npm_texts.specs.SpecGrammar.{IsAlias}

-- ---- one letter of either case

module _ (b : ℕ) where
  n-again : to_ascii_lowercase b ≡ 110 → ((b == 110) || (b == 78)) ≡ true
  n-again h = grind (arith, nat_tests)

  p-again : to_ascii_lowercase b ≡ 112 → ((b == 112) || (b == 80)) ≡ true
  p-again h = grind (arith, nat_tests)

  m-again : to_ascii_lowercase b ≡ 109 → ((b == 109) || (b == 77)) ≡ true
  m-again h = grind (arith, nat_tests)

  colon-again : to_ascii_lowercase b ≡ 58 → ((b == 58) || (b == 58)) ≡ true
  colon-again h = grind (arith, nat_tests)

  n-takes : ((b == 110) || (b == 78)) ≡ true → to_ascii_lowercase b ≡ 110
  n-takes h = grind (arith, nat_tests)

  p-takes : ((b == 112) || (b == 80)) ≡ true → to_ascii_lowercase b ≡ 112
  p-takes h = grind (arith, nat_tests)

  m-takes : ((b == 109) || (b == 77)) ≡ true → to_ascii_lowercase b ≡ 109
  m-takes h = grind (arith, nat_tests)

  colon-takes : ((b == 58) || (b == 58)) ≡ true → to_ascii_lowercase b ≡ 58
  colon-takes h = grind (arith, nat_tests)

-- ---- what is read is of the grammar

-- the first byte of a text, and the rest
record IsPast (byte other : ℕ) (text rest : List ℕ) : Type 0 where
  pub first : ℕ
  pub whole : text ≡ first ∷ rest
  pub either : ((first == byte) || (first == other)) ≡ true

past-takes : (byte other : ℕ) (text rest : List ℕ) → past_either byte other text ≡ Some rest → IsPast byte other text rest
past-takes byte other [] rest h = cc h
past-takes byte other (b ∷ text) rest h = elim (cases_Bool ((b == byte) || (b == other))) [
  | inl is ↦
      let same : Some text ≡ Some rest = rw is at h in
      record { first = b; whole = ap (λ (l : List ℕ). b ∷ l) (same_Some _ _ same); either = is }
  | inr is_not ↦ let none : None ≡ Some rest = rw is_not at h in cc none
]

-- the result of the first of two steps
first-step : (f : List ℕ → Option (List ℕ)) (o : Option (List ℕ)) (rest : List ℕ) → option_and_then f o ≡ Some rest
    → (text : List ℕ) × (o ≡ Some text) × (f text ≡ Some rest)
first-step f None rest h = cc h
first-step f (Some text) rest h = (text, refl, h)

pub alias-takes : (text target : List ℕ) → alias_target text ≡ Some target → IsAlias text target
alias-takes text target h =
    let colon = first-step (past_either 58 58) _ target h in
    let m = first-step (past_either 109 77) _ colon.0 colon.1 in
    let p = first-step (past_either 112 80) _ m.0 m.1 in
    let one = past-takes 110 78 text p.0 p.1 in
    let two = past-takes 112 80 p.0 m.0 p.2 in
    let three = past-takes 109 77 m.0 colon.0 m.2 in
    let four = past-takes 58 58 colon.0 target colon.2 in
    record {
      scheme = one.first ∷ two.first ∷ three.first ∷ four.first ∷ [];
      whole = one.whole ∙ ap (λ (l : List ℕ). one.first ∷ l) (two.whole ∙ ap (λ (l : List ℕ). two.first ∷ l)
          (three.whole ∙ ap (λ (l : List ℕ). three.first ∷ l) four.whole));
      npm = cc (
        n-takes one.first one.either,
        p-takes two.first two.either,
        m-takes three.first three.either,
        colon-takes four.first four.either,
      );
    }

-- ---- what is of the grammar is read

past-again : (byte other b : ℕ) (rest : List ℕ) → ((b == byte) || (b == other)) ≡ true
    → past_either byte other (b ∷ rest) ≡ Some rest
past-again byte other b rest is = rw is refl

four-again : (n p m colon : ℕ) (target : List ℕ) → to_ascii_lowercase n ≡ 110 → to_ascii_lowercase p ≡ 112
    → to_ascii_lowercase m ≡ 109 → to_ascii_lowercase colon ≡ 58
    → alias_target (n ∷ p ∷ m ∷ colon ∷ target) ≡ Some target
four-again n p m colon target is_n is_p is_m is_colon =
    let one = past-again 110 78 n (p ∷ m ∷ colon ∷ target) (n-again n is_n) in
    let two = past-again 112 80 p (m ∷ colon ∷ target) (p-again p is_p) in
    let three = past-again 109 77 m (colon ∷ target) (m-again m is_m) in
    let four = past-again 58 58 colon target (colon-again colon is_colon) in
    ap (λ (o : Option (List ℕ)). option_and_then (past_either 58 58) (option_and_then (past_either 109 77)
    (option_and_then (past_either 112 80) o))) one
    ∙ ap (λ (o : Option (List ℕ)). option_and_then (past_either 58 58) (option_and_then (past_either 109 77) o)) two
    ∙ ap (λ (o : Option (List ℕ)). option_and_then (past_either 58 58) o) three
    ∙ four

scheme-again : (scheme target : List ℕ) → map to_ascii_lowercase scheme ≡ codes "npm:"
    → alias_target (scheme ++ target) ≡ Some target
scheme-again [] target npm = cc npm
scheme-again (n ∷ []) target npm = cc npm
scheme-again (n ∷ p ∷ []) target npm = cc npm
scheme-again (n ∷ p ∷ m ∷ []) target npm = cc npm
scheme-again (n ∷ p ∷ m ∷ colon ∷ []) target npm = four-again n p m colon target (cc npm) (cc npm) (cc npm) (cc npm)
scheme-again (n ∷ p ∷ m ∷ colon ∷ b ∷ rest) target npm = cc npm

pub alias-again : (text target : List ℕ) → IsAlias text target → alias_target text ≡ Some target
alias-again text target is = ap alias_target is.whole ∙ scheme-again is.scheme target is.npm
