-- The operand of a full text: three numbers, as a partial.
use Rattle.std.proofs.Common.{◌≡◌, ◌∙◌, ◌≤◌, ℕ, Bool, List, [], ◌∷◌, Option, Some, Ok, Err, ap}
use Rattle.std.proofs.Common.{inl, inr, length, refl, sym}
use Rattle.std.proofs.lemmas.Bool.{cases_Bool, le-leb}
use Rattle.std.proofs.lemmas.Bool.Decides.{nat_tests}
use Rattle.std.proofs.Common.{arith}
use Rattle.std.specs.Prelude.{◌&&◌, not}
use Rattle.semver_texts.specs.Characters.{BeginsWith, BeginsWithNo, dot, is_digit}
use Rattle.semver_texts.specs.Lemmas.Public.{answer, clean_extras, digit-begins_no_x, number-digit, ok-value}
use Rattle.semver_texts.specs.Lemmas.Public.{rest_of-none}
use Rattle.semver_texts.specs.Reading.{Read, ◌>>=◌, read_extras, read_number}
use Rattle.semver_texts.specs.declared.TheConstants.{MAX_LENGTH}
use Rattle.npm_sets.specs.PartialTexts.{has_leading_zero, number_component, partial_of, read_component}
use Rattle.npm_sets.specs.WordTexts.{is_mark}
use Rattle.npm_sets.specs.PartialTexts.{read_components, with_extras}
use Rattle.npm_sets.specs.Private.ReadViews.{IsNumberBefore}

-- ---- numbers

-- a number as a component
abbrev found : ℕ → List ℕ → Read (Option ℕ)
found number rest = Ok (Some number, rest)

bound : (r : Read ℕ) (number : ℕ) (rest : List ℕ) → found number rest ≡ (r >>= λ n. found n.0 n.1)
    → Ok (number, rest) ≡ r
bound (Ok n) number rest h =
    let pair = ok-value (Some number, rest) (Some n.0, n.1) h in
    let value : Some number ≡ Some n.0 = ap (λ (p : Option ℕ × List ℕ). p.0) pair in
    let same : number ≡ n.0 = cc value in
    let behind : rest ≡ n.1 = ap (λ (p : Option ℕ × List ℕ). p.1) pair in
    λ i. Ok (same i, behind i)
bound (Err fault) number rest h = cc h

-- a component that is a number is read as one
pub number-read : (loose : Bool) (text rest : List ℕ) (number : ℕ) → IsNumberBefore loose text number rest
    → Ok (number, rest) ≡ read_number text
number-read loose text rest number h = elim (cases_Bool (not loose && has_leading_zero text)) [
  | inl padded ↦ cc (rw padded at h)
  | inr plain ↦ bound (read_number text) number rest (rw plain at h)
]

pub number-begins : (loose : Bool) (text rest : List ℕ) (number : ℕ) → IsNumberBefore loose text number rest
    → BeginsWith is_digit text
number-begins loose text rest number h = number-digit text rest number (number-read loose text rest number h)

component : (loose : Bool) (text : List ℕ) → BeginsWith is_digit text
    → read_component loose text ≡ number_component loose text
component loose [] digit = absurd digit
component loose (b ∷ text) digit = rw (digit-begins_no_x (b ∷ text) digit) refl

-- as a component
number-component : (loose : Bool) (text rest : List ℕ) (number : ℕ) → IsNumberBefore loose text number rest
    → Ok (Some number, rest) ≡ read_component loose text
number-component loose text rest number h =
    h ∙ sym (component loose text (number-begins loose text rest number h))

-- ---- the partial

no-extras : read_extras [] ≡ (([], []), [])
no-extras = clean_extras [] refl

digit-no_mark : (text : List ℕ) → BeginsWith is_digit text → BeginsWithNo is_mark text
digit-no_mark [] digit = absurd digit
digit-no_mark (b ∷ text) digit = grind (arith, nat_tests)

-- three numbers with dots between them, and nothing else
module _ (loose : Bool) (text second third : List ℕ) (major minor patch : ℕ)
    (one : IsNumberBefore loose text major (dot ∷ second)) (two : IsNumberBefore loose second minor (dot ∷ third))
    (three : IsNumberBefore loose third patch []) where
  full-components : read_components loose text ≡ Ok (with_extras (Some major) (Some minor) (Some patch) [], [])
  full-components =
      let first = number-component loose text (dot ∷ second) major one in
      let next = number-component loose second (dot ∷ third) minor two in
      let last = number-component loose third [] patch three in
      elim (cases_Bool loose) [
        | inl is ↦ rw (← first, ← next, ← last, is, no-extras) refl
        | inr is ↦ rw (← first, ← next, ← last, is, no-extras) refl
      ]

  pub full-partial : length text ≤ MAX_LENGTH
      → answer (with_extras (Some major) (Some minor) (Some patch) []) ≡ partial_of loose text
  unfolding partial_of
  full-partial short =
      let digit = number-begins loose text (dot ∷ second) major one in
      rw (
        rest_of-none is_mark text (digit-no_mark text digit),
        full-components,
        le-leb (length text) MAX_LENGTH short,
      ) refl
