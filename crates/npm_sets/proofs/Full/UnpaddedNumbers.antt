-- Numbers without a leading zero: they are read alike in strict and in loose form.
use Rattle.std.proofs.Common.{◌≡◌, ◌∙◌, ◌<◌, ◌≤◌, ◌-◌, ℕ, Bool, false, List, [], ◌∷◌, Ok, ap, arith, drop, get_or, inl, inr}
use Rattle.std.proofs.Common.{length, refl, subst, sym, take}
use Rattle.std.proofs.lemmas.List.{take_all}
use Rattle.std.proofs.lemmas.Bool.{cases_Bool}
use Rattle.semver_texts.specs.Characters.{BeginsWithNo, dot, is_digit}
use Rattle.semver_texts.specs.Lemmas.Public.{number-again}
use Rattle.semver_texts.specs.NumberText.{IsNumberText}
use Rattle.semver_texts.specs.Reading.{read_number}
use Rattle.npm_sets.specs.PartialTexts.{has_leading_zero}
use Rattle.npm_sets.specs.Private.ReadViews.{IsNumberBefore}

-- a number that is read from a text without a leading zero
pub plain-before : (loose : Bool) (text rest : List ℕ) (number : ℕ) → has_leading_zero text ≡ false
    → Ok (number, rest) ≡ read_number text → IsNumberBefore loose text number rest
plain-before loose text rest number plain read = elim (cases_Bool loose) [
  | inl is ↦ rw (is, ← read) refl
  | inr is ↦ rw (is, plain, ← read) refl
]

zero-number : IsNumberText (48 ∷ []) 0
zero-number = record { some = refl; digits = refl; value = refl; limit = omega arith }

zero-alone : (rest : List ℕ) → BeginsWithNo is_digit rest → has_leading_zero (48 ∷ rest) ≡ false
zero-alone [] ends = refl
zero-alone (b ∷ rest) ends = ends

-- a zero, if no digit follows
pub zero-before : (loose : Bool) (rest : List ℕ) → BeginsWithNo is_digit rest → IsNumberBefore loose (48 ∷ rest) 0 rest
zero-before loose rest ends =
    plain-before loose (48 ∷ rest) rest 0 (zero-alone rest ends) (sym (number-again (48 ∷ []) rest 0 zero-number ends))

-- ---- as bytes

-- the text after its first character
abbrev pub after : List ℕ → List ℕ
after text = take (length text - 1) (drop 1 text)

first-then : (text : List ℕ) (b : ℕ) → 1 ≤ length text → get_or text 0 0 ≡ b → text ≡ b ∷ after text
first-then [] b some is = absurd (omega arith)
first-then (a ∷ rest) b some is =
    let n : length (a ∷ rest) - 1 ≡ length rest = omega arith in
    rw (is, n, take_all (length rest) rest (omega arith)) refl

none-left : (text : List ℕ) → length text < 1 → text ≡ []
none-left [] short = refl
none-left (b ∷ text) short = absurd (omega arith)

-- a zero before a dot
pub zero-dotted : (text : List ℕ) → 1 ≤ length text → get_or text 0 0 ≡ 48 → 1 ≤ length (after text)
    → get_or (after text) 0 0 ≡ 46 → (loose : Bool) → IsNumberBefore loose text 0 (dot ∷ after (after text))
zero-dotted text some first more second loose =
    let whole : text ≡ 48 ∷ dot ∷ after (after text) =
    first-then text 48 some first ∙ ap (λ (l : List ℕ). 48 ∷ l) (first-then (after text) 46 more second) in
    subst (λ (t : List ℕ). IsNumberBefore loose t 0 (dot ∷ after (after text))) (sym whole)
    (zero-before loose (dot ∷ after (after text)) refl)

-- a zero and nothing else
pub zero-last : (text : List ℕ) → 1 ≤ length text → get_or text 0 0 ≡ 48 → length (after text) < 1 → (loose : Bool)
    → IsNumberBefore loose text 0 []
zero-last text some first none loose =
    let whole : text ≡ 48 ∷ [] =
    first-then text 48 some first ∙ ap (λ (l : List ℕ). 48 ∷ l) (none-left (after text) none) in
    subst (λ (t : List ℕ). IsNumberBefore loose t 0 []) (sym whole) (zero-before loose [] tt)
