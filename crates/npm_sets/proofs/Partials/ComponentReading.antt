-- Components of npm's partials: the reader reads exactly these texts.
use Rattle.std.proofs.Common.{◌≡◌, ℕ, Bool, true, false, List, [], ◌∷◌, ◌++◌, Option, Some, None, Ok, Err, refl, sym, ap}
use Rattle.std.proofs.Common.{◌∙◌, arith, inl, inr, subst}
use Rattle.std.proofs.lemmas.Bool.{and_parts, cases_Bool}
use Rattle.std.specs.Prelude.{◌==◌, ◌&&◌, not}
use Rattle.semver_texts.specs.Characters.{AreAll, BeginsWith, BeginsWithNo, is_digit, is_x}
use Rattle.semver_texts.specs.Reading.{Read, ◌>>=◌, read_number}
use Rattle.semver_texts.specs.Lemmas.Public.{begins-append, digit-begins_no_x, number-again, number-takes, ok-value}
use Rattle.semver_texts.specs.Lemmas.Public.{with_no-begins, x-no_digit}
use Rattle.semver_sets.specs.PartialText.{IsComponentText}
use Rattle.npm_sets.specs.PartialGrammar.{IsUnpadded, is_padded_number}
use Rattle.npm_sets.specs.PartialLimits.{IsNpmComponent}
use Rattle.npm_sets.specs.PartialTexts.{has_leading_zero, number_component, read_component}

-- A component at the start of a text. A number takes all the digits.
pub record TakesComponent (loose : Bool) (text : List ℕ) (component : Option ℕ) (rest : List ℕ) : Type 0 where
  pub taken : List ℕ
  pub whole : text ≡ taken ++ rest
  pub is : IsNpmComponent loose taken component
  pub ends : BeginsWith is_digit taken → BeginsWithNo is_digit rest

-- a success: a component and the rest
abbrev pub component_read : Option ℕ → List ℕ → Read (Option ℕ)
component_read component rest = Ok (component, rest)

-- ---- leading zeros

-- all digits at the start of a text are a number with a leading zero exactly if the text begins so
pub zero-first : (digits rest : List ℕ) → BeginsWith is_digit digits → AreAll is_digit digits → BeginsWithNo is_digit rest
    → has_leading_zero (digits ++ rest) ≡ is_padded_number digits
zero-first [] rest some all ends = absurd some
zero-first (b ∷ []) rest some all ends = grind (arith, with_no-begins is_digit rest ends, cases_Bool (b == 48))
zero-first (b ∷ c ∷ digits) rest some all ends = grind (arith, and_parts, cases_Bool (b == 48))

-- an x has none
x-unpadded : (b : ℕ) → IsUnpadded (b ∷ [])
x-unpadded b = refl

-- ---- what is read is a component

number-taken : (loose : Bool) (text : List ℕ) (read : Read ℕ) (component : Option ℕ) (rest : List ℕ)
    → (not loose && has_leading_zero text) ≡ false → read_number text ≡ read
    → (read >>= λ n. component_read (Some n.0) n.1) ≡ component_read component rest
    → TakesComponent loose text component rest
number-taken loose text (Err e) component rest plain r h = cc h
number-taken loose text (Ok n) component rest plain r h =
    grind (arith, number-takes text n.0 n.1 r, ok-value (Some n.0, n.1) (component, rest) h, zero-first)

pub component-takes : (loose : Bool) (text : List ℕ) (component : Option ℕ) (rest : List ℕ)
    → read_component loose text ≡ component_read component rest → TakesComponent loose text component rest
component-takes loose [] component rest h = cc h
component-takes loose (b ∷ text) component rest h = elim (cases_Bool (is_x b)) [
  | inl x ↦
      let e = ok-value (None, text) (component, rest) (rw x at h) in
      let value : None ≡ component = ap (λ (p : Option ℕ × List ℕ). p.0) e in
      let behind : text ≡ rest = ap (λ (p : Option ℕ × List ℕ). p.1) e in
      record {
        taken = b ∷ [];
        whole = ap (λ (l : List ℕ). b ∷ l) behind;
        is = record {
          read = subst (λ (c : Option ℕ). IsComponentText (b ∷ []) c) value (b, refl, x);
          strict = λ form. x-unpadded b;
        };
        ends = λ digit. cc (sym digit ∙ x-no_digit b x);
      }
  | inr other ↦ elim (cases_Bool (not loose && has_leading_zero (b ∷ text))) [
    | inl padded ↦ cc (rw (other, padded) at h)
    | inr plain ↦
        number-taken loose (b ∷ text) (read_number (b ∷ text)) component rest plain refl (rw (other, plain) at h)
  ]
]

-- ---- a component is read

-- in strict form the digits of a number begin with no leading zero, whatever follows them
pub zero-none : (loose : Bool) (digits rest : List ℕ) → BeginsWith is_digit digits → AreAll is_digit digits
    → BeginsWithNo is_digit rest → (loose ≡ false → IsUnpadded digits)
    → (not loose && has_leading_zero (digits ++ rest)) ≡ false
zero-none true digits rest some all ends strict = refl
zero-none false digits rest some all ends strict =
    grind (arith, zero-first digits rest some all ends, strict refl)

number-read : (loose : Bool) (text rest : List ℕ) (number : ℕ) → IsNpmComponent loose text (Some number)
    → BeginsWithNo is_digit rest → number_component loose (text ++ rest) ≡ component_read (Some number) rest
number-read loose text rest number h ends =
    rw (
      zero-none loose text rest h.read.some h.read.digits ends h.strict,
      number-again text rest number h.read ends,
    ) refl

-- what begins with a digit is no x
pub digit-component : (loose : Bool) (text : List ℕ) → BeginsWith is_digit text
    → read_component loose text ≡ number_component loose text
digit-component loose [] digit = absurd digit
digit-component loose (b ∷ text) digit = rw (digit-begins_no_x (b ∷ text) digit) refl

x-read : (loose : Bool) (b : ℕ) (rest : List ℕ) → is_x b ≡ true
    → read_component loose (b ∷ rest) ≡ component_read None rest
x-read loose b rest x = rw x refl

-- a component is read, if no digit follows a number
pub component-again : (loose : Bool) (text rest : List ℕ) (component : Option ℕ) → IsNpmComponent loose text component
    → (BeginsWith is_digit text → BeginsWithNo is_digit rest)
    → read_component loose (text ++ rest) ≡ component_read component rest
component-again loose text rest None h ends =
    rw h.read.1 (x-read loose h.read.0 rest h.read.2)
component-again loose text rest (Some number) h ends =
    digit-component loose (text ++ rest) (begins-append is_digit text rest h.read.some)
    ∙ number-read loose text rest number h (ends h.read.some)
