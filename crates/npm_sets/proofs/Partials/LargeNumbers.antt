-- Numbers that are too large: the reader stops at exactly these.
use Rattle.std.proofs.Common.{◌≡◌, ◌<◌, ℕ, Bool, true, false, List, [], ◌∷◌, ◌++◌, Some, Ok, Err, refl, sym, ap}
use Rattle.std.proofs.Common.{◌∙◌, arith, inl, inr, length, subst}
use Rattle.std.proofs.lemmas.Bool.{cases_Bool, lt-leb}
use Rattle.std.specs.Prelude.{◌&&◌, not}
use Rattle.semver_texts.specs.Characters.{AreAll, BeginsWith, BeginsWithNo, is_digit, is_x}
use Rattle.semver_texts.specs.Reading.{Read, ◌>>=◌, begins, missing, prefix_of, read_number, rest_of}
use Rattle.semver_texts.specs.declared.TheConstants.{MAX_SAFE_INTEGER}
use Rattle.semver_texts.specs.declared.parse.fault.Fault.{Fault}
use Rattle.semver_texts.specs.declared.parse.fault.Fault.TheVariants.{TooLarge}
use Rattle.semver_texts.specs.Lemmas.Public.{begins-append, begins-with, prefix_of-again}
use Rattle.semver_texts.specs.Lemmas.Public.{prefix_of-all, prefix_of-begins, prefix_of-rest_of, refusal, rest_of-no}
use Rattle.semver_texts.specs.Lemmas.Public.{with-begins}
use Rattle.semver_texts.specs.NumberText.{number_of}
use Rattle.npm_sets.specs.NpmMeaning.{is_unknown}
use Rattle.npm_sets.specs.PartialGrammar.{IsUnpadded}
use Rattle.npm_sets.specs.PartialLimits.{BeginsTooLarge}
use Rattle.npm_sets.specs.PartialTexts.{has_leading_zero, read_component}
use Rattle.npm_sets.proofs.Partials.ComponentReading.{component_read, digit-component, zero-first, zero-none}

-- a refusal of a number that is too large
abbrev pub too_large : {A : Type 0} → ℕ → Read A
too_large left = Err (TooLarge left)

-- ---- one number

-- the digits have no leading zero in strict form
unpadded : (loose : Bool) (digits rest : List ℕ) → BeginsWith is_digit digits → AreAll is_digit digits
    → BeginsWithNo is_digit rest → (not loose && has_leading_zero (digits ++ rest)) ≡ false → loose ≡ false
    → IsUnpadded digits
unpadded true digits rest some all ends plain form = cc form
unpadded false digits rest some all ends plain form = grind (arith, zero-first digits rest some all ends)

-- a text is refused as a number and is not unknown: then it begins with a number that is too large
above : (text : List ℕ) (fault : Fault) → read_number text ≡ refusal fault → is_unknown fault ≡ false
    → (begins is_digit text ≡ true) × (MAX_SAFE_INTEGER < number_of (prefix_of is_digit text))
unfolding read_number
above text fault h known = grind (arith, refusal)

number-large : (loose : Bool) (text : List ℕ) (fault : Fault) → (not loose && has_leading_zero text) ≡ false
    → read_number text ≡ refusal fault → is_unknown fault ≡ false → BeginsTooLarge loose text
number-large loose text fault plain h known =
    let whole = prefix_of-rest_of is_digit text in
    let number = above text fault h known in
    let some = prefix_of-begins is_digit text (begins-with is_digit text number.0) in
    record {
      digits = prefix_of is_digit text;
      rest = rest_of is_digit text;
      whole = sym whole;
      some = some;
      all = prefix_of-all is_digit text;
      ends = rest_of-no is_digit text;
      strict = unpadded loose (prefix_of is_digit text) (rest_of is_digit text) some (prefix_of-all is_digit text)
          (rest_of-no is_digit text) (ap (λ (l : List ℕ). not loose && has_leading_zero l) whole ∙ plain);
      large = number.1;
    }

bound-refused : (read : Read ℕ) (fault : Fault)
    → (read >>= λ n. component_read (Some n.0) n.1) ≡ refusal fault → read ≡ refusal fault
bound-refused (Ok n) fault h = cc h
bound-refused (Err e) fault h = cc h

-- a number or a dot that is missing is unknown
pub missing-unknown : {A : Type 0} (text : List ℕ) (fault : Fault) → missing {A = A} text ≡ refusal fault
    → is_unknown fault ≡ false → ⊥
missing-unknown text fault h known = grind (arith, refusal)

-- the same of a component
pub component-large : (loose : Bool) (text : List ℕ) (fault : Fault) → read_component loose text ≡ refusal fault
    → is_unknown fault ≡ false → BeginsTooLarge loose text
component-large loose [] fault h known = absurd (missing-unknown [] fault h known)
component-large loose (b ∷ text) fault h known = elim (cases_Bool (is_x b)) [
  | inl x ↦ cc (rw x at h)
  | inr other ↦ elim (cases_Bool (not loose && has_leading_zero (b ∷ text))) [
    | inl padded ↦ absurd (missing-unknown (b ∷ text) fault (rw (other, padded) at h) known)
    | inr plain ↦
        number-large loose (b ∷ text) fault plain
        (bound-refused (read_number (b ∷ text)) fault (rw (other, plain) at h)) known
  ]
]

-- ---- and where one has, reading stops

large-read : (text : List ℕ) → begins is_digit text ≡ true → MAX_SAFE_INTEGER < number_of (prefix_of is_digit text)
    → read_number text ≡ too_large (length text)
unfolding read_number
large-read text some large = rw (some, lt-leb _ _ large) refl

pub large-again : (loose : Bool) (text : List ℕ) → BeginsTooLarge loose text
    → read_component loose text ≡ too_large (length text)
large-again loose text h =
    let begins_so = begins-append is_digit h.digits h.rest h.some in
    let same : prefix_of is_digit (h.digits ++ h.rest) ≡ h.digits =
    prefix_of-again is_digit h.digits h.rest h.all h.ends in
    rw h.whole
    (digit-component loose (h.digits ++ h.rest) begins_so
    ∙ rw (
      zero-none loose h.digits h.rest h.some h.all h.ends h.strict,
      large-read (h.digits ++ h.rest) (with-begins is_digit (h.digits ++ h.rest) begins_so)
          (subst (λ (l : List ℕ). MAX_SAFE_INTEGER < number_of l) (sym same) h.large),
    ) refl)
