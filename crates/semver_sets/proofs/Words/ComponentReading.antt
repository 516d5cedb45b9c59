-- Components of a partial: the reader reads exactly the component texts.
use native.Mathlib.Omega.{arith}
use Rattle.std.proofs.Common.{◌≡◌, ℕ, List, [], ◌∷◌, ◌++◌, Option, Some, None, Ok, Err, refl, sym, ap, ◌∙◌, inl, inr}
use Rattle.std.proofs.Common.{subst}
use Rattle.std.proofs.lemmas.Bool.{cases_Bool}
use Rattle.std.proofs.lemmas.Option.{same_Some}
use Rattle.semver_texts.specs.Characters.{BeginsWith, BeginsWithNo, is_digit, is_x}
use Rattle.semver_sets.specs.PartialText.{IsComponentText}
use Rattle.semver_texts.specs.Reading.{Read, read_number}
use Rattle.semver_sets.specs.Private.WordReading.{number_component, read_component}
use Rattle.semver_texts.specs.Lemmas.Public.{digit-no_x, number-again, number-takes, x-no_digit}

-- A component at the start of a text. A number takes all the digits.
pub record TakesComponent (text : List ℕ) (component : Option ℕ) (rest : List ℕ) : Type 0 where
  pub taken : List ℕ
  pub whole : text ≡ taken ++ rest
  pub read : IsComponentText taken component
  pub ends : BeginsWith is_digit taken → BeginsWithNo is_digit rest

-- a number that is read is a component
number_component-takes : (text : List ℕ) (read : Read ℕ) (component : Option ℕ) (rest : List ℕ)
    → read_number text ≡ read → number_component read ≡ Some (component, rest) → TakesComponent text component rest
number_component-takes text (Err e) component rest r h = cc h
number_component-takes text (Ok n) component rest r h = grind
    (arith, same_Some (Some n.0, n.1) (component, rest) h, number-takes text n.0 n.1 r)

-- the text before the rest is a component
pub component-takes : (text : List ℕ) (component : Option ℕ) (rest : List ℕ)
    → read_component text ≡ Some (component, rest) → TakesComponent text component rest
unfolding read_component
component-takes [] component rest h = cc h
component-takes (b ∷ text) component rest h = elim (cases_Bool (is_x b)) [
  | inr other ↦ number_component-takes (b ∷ text) (read_number (b ∷ text)) component rest refl (rw other at h)
  | inl x ↦
      let e = same_Some (None, text) (component, rest) (rw x at h) in
      let value : None ≡ component = ap (λ (p : Option ℕ × List ℕ). p.0) e in
      let behind : text ≡ rest = ap (λ (p : Option ℕ × List ℕ). p.1) e in
      record {
        taken = b ∷ [];
        whole = ap (λ (l : List ℕ). b ∷ l) behind;
        read = subst (λ (c : Option ℕ). IsComponentText (b ∷ []) c) value (b, refl, x);
        ends = λ digit. cc (sym digit ∙ x-no_digit b x);
      }
]

-- a component is read, if no digit follows a number
pub component-again : (text rest : List ℕ) (component : Option ℕ) → IsComponentText text component
    → (BeginsWith is_digit text → BeginsWithNo is_digit rest) → read_component (text ++ rest) ≡ Some (component, rest)
unfolding read_component
component-again text rest component h1 h2 = grind (arith, digit-no_x, number-again)
