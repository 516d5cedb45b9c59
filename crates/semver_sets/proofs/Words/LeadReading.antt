-- The beginning of a word, before its partial: an operator, a tilde, a caret or nothing. The reader reads exactly
-- these.
use native.Mathlib.Omega.{arith}
use Rattle.std.proofs.Common.{◌≡◌, ℕ, List, [], ◌∷◌, ◌++◌, Option, Some, None, refl, ap, inl, inr}
use Rattle.std.proofs.Common.{subst, append_assoc}
use Rattle.std.proofs.lemmas.Bool.{cases_Bool, eqb-true}
use Rattle.std.specs.Prelude.{◌==◌}
use Rattle.semver_texts.specs.Characters.{AreAll, BeginsWithNo, caret, greater_sign, is_blank, tilde}
use Rattle.semver_sets.specs.Operators.{Operator, operator_text}
use Rattle.semver_sets.specs.PartialText.{Partial}
use Rattle.semver_texts.specs.Reading.{prefix_of, rest_of}
use Rattle.semver_sets.specs.Private.WordReading.{Lead, caret_lead, no_lead, operator, operator_lead}
use Rattle.semver_sets.specs.Private.WordReading.{read_lead, read_operator, read_partial, tilde_at, tilde_greater_lead}
use Rattle.semver_sets.specs.Private.WordReading.{tilde_lead}
use Rattle.semver_sets.proofs.Words.PartialReading.{partial-no}
use Rattle.semver_texts.specs.Lemmas.Public.{prefix_of-all, prefix_of-rest_of, rest_of-again}

-- ---- no lead

-- a text that begins with a partial begins with no operator
no-operator : (text : List ℕ) (r : Partial × List ℕ) → read_partial text ≡ Some r → read_operator text ≡ None
unfolding read_operator
no-operator [] r h = refl
no-operator (b ∷ rest) r h =
    grind (
      arith,
      partial-no greater_sign (b ∷ rest) r refl h,
      partial-no 61 (b ∷ rest) r refl h,
      partial-no 60 (b ∷ rest) r refl h,
    )

-- a text that begins with a partial has no lead
pub lead-none : (text : List ℕ) (r : Partial × List ℕ) → read_partial text ≡ Some r → read_lead text ≡ (no_lead, text)
unfolding read_lead
lead-none [] r h = refl
lead-none (b ∷ rest) r h =
    grind (
      arith,
      partial-no caret (b ∷ rest) r refl h,
      partial-no tilde (b ∷ rest) r refl h,
      no-operator (b ∷ rest) r h,
    )

-- where there is no lead, the whole text is left
pub lead-plain : (text : List ℕ) → (read_lead text).0 ≡ no_lead → (read_lead text).1 ≡ text
unfolding read_lead
lead-plain text h1 = grind (arith, cases_Bool)

-- where there is one, the text begins with no partial
pub lead-not_partial : (text : List ℕ) → ((read_lead text).0 ≡ no_lead → ⊥) → read_partial text ≡ None
lead-not_partial text some = grind (arith, lead-none)

-- ---- the reader reads only these

-- the characters of a lead, blanks or none, and the rest
pub record IsFollowed (lead text rest : List ℕ) : Type 0 where
  pub blanks : List ℕ
  pub whole : text ≡ lead ++ (blanks ++ rest)
  pub blank : AreAll is_blank blanks

-- the same by the lead
abbrev pub StandsBefore : Lead → List ℕ → List ℕ → Type 0
StandsBefore no_lead text rest = text ≡ rest
StandsBefore (operator o) text rest = IsFollowed (operator_text o) text rest
StandsBefore tilde_lead text rest = IsFollowed (tilde ∷ []) text rest
StandsBefore tilde_greater_lead text rest = (blanks : List ℕ) × AreAll is_blank blanks
    × IsFollowed (tilde ∷ (blanks ++ (greater_sign ∷ []))) text rest
StandsBefore caret_lead text rest = IsFollowed (caret ∷ []) text rest

-- the same of the reader's result
abbrev pub Stands : List ℕ → Lead × List ℕ → Type 0
Stands text read = StandsBefore read.0 text read.1

-- all the blanks after a lead
unblanked : (lead rest : List ℕ) → IsFollowed lead (lead ++ rest) (rest_of is_blank rest)
unblanked lead rest = grind (arith, prefix_of-rest_of is_blank rest, prefix_of-all is_blank rest)

-- an operator, with which the text begins
abbrev IsOperatorRead : List ℕ → Option (Operator × List ℕ) → Type 0
IsOperatorRead text None = Unit {0}
IsOperatorRead text (Some r) = text ≡ operator_text r.0 ++ r.1

-- the operator that is read begins the text
operator-takes : (text : List ℕ) → IsOperatorRead text (read_operator text)
unfolding read_operator
operator-takes text = grind (arith, cases_Bool, eqb-true)

-- an operator and all the blanks after it, or nothing
operator_lead-takes : (text : List ℕ) (found : Option (Operator × List ℕ)) → IsOperatorRead text found
    → Stands text (operator_lead found text)
operator_lead-takes text found h1 = grind (arith, unblanked)

-- a tilde, and a `>` or none
tilde-takes : (text : List ℕ) → Stands (tilde ∷ text) (tilde_at (rest_of is_blank text))
tilde-takes text = by_first (rest_of is_blank text) refl
  where
    by_first : (rest : List ℕ) → rest_of is_blank text ≡ rest → Stands (tilde ∷ text) (tilde_at rest)
    by_first [] e = subst (λ (l : List ℕ). IsFollowed (tilde ∷ []) (tilde ∷ text) l) e (unblanked (tilde ∷ []) text)
    by_first (b ∷ rest) e = elim (cases_Bool (b == greater_sign)) [
      | inr other ↦ grind (arith, unblanked (tilde ∷ []) text)
      | inl here ↦
          let blanks = prefix_of is_blank text in
          let lead = tilde ∷ (blanks ++ (greater_sign ∷ [])) in
          grind (
            arith,
            prefix_of-rest_of is_blank text,
            eqb-true b greater_sign here,
            append_assoc blanks (greater_sign ∷ []) rest,
            prefix_of-all is_blank text,
            unblanked lead rest,
          )
    ]

-- the lead that is read begins the text, before the rest
pub lead-takes : (text : List ℕ) → Stands text (read_lead text)
unfolding read_lead
lead-takes [] = refl
lead-takes (b ∷ text) =
    grind (
      arith,
      unblanked (caret ∷ []) text,
      tilde-takes text,
      operator_lead-takes (b ∷ text) (read_operator (b ∷ text)) (operator-takes (b ∷ text)),
    )

-- ---- each of these is read

-- an operator is read, where no `=` follows it
operator-again : (o : Operator) (behind : List ℕ) → BeginsWithNo (λ b. b == 61) behind
    → read_operator (operator_text o ++ behind) ≡ Some (o, behind)
unfolding read_operator
operator-again o behind h1 = grind arith

-- neither a caret nor a tilde begins an operator
operator_text-first : (o : Operator) (behind : List ℕ) → read_lead (operator_text o ++ behind)
    ≡ operator_lead (read_operator (operator_text o ++ behind)) (operator_text o ++ behind)
unfolding read_lead
operator_text-first o behind = grind arith

-- so it is read as a lead
pub lead-operator : (o : Operator) (behind : List ℕ) → BeginsWithNo (λ b. b == 61) behind
    → read_lead (operator_text o ++ behind) ≡ (operator o, rest_of is_blank behind)
lead-operator o behind h = rw (operator_text-first o behind, operator-again o behind h) refl

-- so a tilde is read
pub lead-tilde : (behind : List ℕ) → BeginsWithNo (λ b. b == greater_sign) (rest_of is_blank behind)
    → read_lead (tilde ∷ behind) ≡ (tilde_lead, rest_of is_blank behind)
unfolding read_lead
lead-tilde behind h1 = grind arith

-- a tilde and a `>` are read
pub lead-tilde_greater : (blanks behind : List ℕ) → AreAll is_blank blanks
    → read_lead (tilde ∷ (blanks ++ (greater_sign ∷ behind))) ≡ (tilde_greater_lead, rest_of is_blank behind)
unfolding read_lead
lead-tilde_greater blanks behind all = ap tilde_at (rest_of-again is_blank blanks (greater_sign ∷ behind) all refl)

-- a caret is read
pub lead-caret : (behind : List ℕ) → read_lead (caret ∷ behind) ≡ (caret_lead, rest_of is_blank behind)
unfolding read_lead
lead-caret behind = refl
