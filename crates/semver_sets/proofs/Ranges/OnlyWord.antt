-- A text that is one word and no hyphen range: its comparator is the only one of the range.
use native.Mathlib.Omega.{arith}
use Rattle.std.proofs.Common.{◌≡◌, ℕ, List, [], ◌∷◌, Option, Some, None, refl, sym, ap, subst, ◌∙◌}
use Rattle.std.proofs.Common.{append-nil}
use Rattle.std.proofs.lemmas.Bool.{cases_Bool}
use Rattle.std.specs.Prelude.{IfSome}
use Rattle.semver_sets.specs.Comparator.{Comparator}
use Rattle.semver_sets.specs.Division.{IsSimpleText, IsWord, NoneAt, simple}
use Rattle.semver_sets.specs.HyphenRanges.{IsHyphenText}
use Rattle.semver_sets.specs.PartialText.{Partial}
use Rattle.semver_sets.specs.Private.RangeViews.{IsOnlyComparator}
use Rattle.semver_sets.specs.Private.WordReading.{Lead, lead_comparator, no_lead, read_hyphen, read_lead, read_partial}
use Rattle.semver_sets.specs.Private.WordReading.{read_right, read_simple}
use Rattle.semver_sets.proofs.Words.HyphenReading.{left-ends, right-none}
use Rattle.semver_sets.proofs.Words.LeadReading.{lead-not_partial, lead-plain}
use Rattle.semver_sets.proofs.Words.NoBars.{simple-no_bars}
use Rattle.semver_sets.proofs.Words.SimpleHolds.{simple-below}
use Rattle.semver_sets.proofs.Words.SimpleReading.{TakesSimple, simple-takes}
use Rattle.semver_sets.proofs.Words.WordLemmas.{blank-lead, hyphen-with_left, no-hyphen, right-no_blank}
use Rattle.semver_sets.proofs.Words.WordViews.{lead-cases}

-- ---- no hyphen range

-- no hyphen range without a left side begins with a lead
led-no_right : (text : List ℕ) → ((read_lead text).0 ≡ no_lead → ⊥) → read_right text ≡ None
led-no_right text h1 = grind (arith, right-no_blank, cases_Bool, blank-lead)

-- nor is a lead and a partial one, where nothing is left
only-no_hyphen : (text operand : List ℕ) (l : Lead) (p : Partial) → (l, operand) ≡ read_lead text
    → Some (p, []) ≡ read_partial operand → read_hyphen text ≡ None
only-no_hyphen text operand l p led read =
    grind (arith, lead-cases, lead-plain, hyphen-with_left, right-none, left-ends, led-no_right, lead-not_partial)

-- ---- the only comparator

-- the lead and the partial are a word
only-simple : (text operand : List ℕ) (l : Lead) (p : Partial) → (l, operand) ≡ read_lead text
    → Some (p, []) ≡ read_partial operand → read_simple text ≡ Some (lead_comparator l p, [])
unfolding read_simple
only-simple text operand l p led read = rw (← led, ← read) refl

-- which is all of the text
only-taken : (text : List ℕ) (c : Comparator) → read_hyphen text ≡ None → TakesSimple text (Some c) []
    → IsOnlyComparator text c
only-taken text c none t =
    let taken : t.taken ≡ text = sym (t.whole ∙ append-nil t.taken) in
    let word : IsWord t.taken [] (Some c) =
    simple (subst (NoneAt IsHyphenText) t.whole (no-hyphen text none)) t.read t.clean in
    record {
      alternative = record {
        words = Some c ∷ [];
        divided = subst (λ (l : List ℕ). IsWord l [] (Some c)) taken word;
        kept = refl;
      };
      no_bars = simple-no_bars text (Some c) (subst (λ (l : List ℕ). IsSimpleText l (Some c)) taken t.read);
      below = simple-below t.taken c t.read;
    }

-- what a lead and a partial make, where nothing is left
pub only-word : (text operand : List ℕ) (l : Lead) (p : Partial) (found : Option Comparator)
    → (l, operand) ≡ read_lead text → Some (p, []) ≡ read_partial operand → found ≡ lead_comparator l p
    → IfSome found (IsOnlyComparator text)
only-word text operand l p None led read found = tt
only-word text operand l p (Some c) led read found = grind (
  arith,
  only-taken text c
      (only-no_hyphen text operand l p led read) (simple-takes text (Some c) []
      (only-simple text operand l p led read ∙ ap (λ (o : Option Comparator). Some (o, [])) (sym found))),
)
