-- Each branch is a case of the definition. A text that asks for any version is known after the others.
use Rattle.std.proofs.Common.{◌≡◌, ◌∙◌, ℕ, List, Option, false, if◌then◌else◌, inl, inr}
use Rattle.std.proofs.lemmas.Bool.{cases_Bool}
use Rattle.npm_lock.specs.Verdict.{IsVerdictOfText, any, asks_for_any, bad_range, tag}
use Rattle.npm_lock.specs.declared.problem.Reason.TheVariants.{Tag}
use Rattle.npm_lock.specs.declared.verdict.Verdict.{Verdict}
use Rattle.npm_lock.specs.declared.verdict.Verdict.TheVariants.{Invalid, Unchecked, Valid}
use Rattle.npm_texts.specs.Admission.{IsNoRange, of_dependencies}
use Rattle.npm_texts.specs.SpecGrammar.{is_tag}
use Rattle.npm_lock.proofs.verdict.verdict_of_text.Goals as goal

or_any : (version : Option (List ℕ)) (text : List ℕ) (verdict : Verdict)
    → (asks_for_any text ≡ false → IsVerdictOfText version text verdict)
    → IsVerdictOfText version text (if asks_for_any text then Valid else verdict)
or_any version text verdict other = elim (cases_Bool (asks_for_any text)) [
  | inl is ↦ rw is (any is)
  | inr is_not ↦ rw is_not (other is_not)
]

no_range : (version : Option (List ℕ)) (text : List ℕ) → IsNoRange of_dependencies text → asks_for_any text ≡ false
    → IsVerdictOfText version text (if is_tag text then Unchecked Tag else Invalid)
no_range version text none some = elim (cases_Bool (is_tag text)) [
  | inl is ↦ rw is (tag some none is)
  | inr is_not ↦ rw is_not (bad_range some none is_not)
]

pub returns-then-is_satisfied : goal.returns-then-is_satisfied
returns-then-is_satisfied c = elim (cases_Bool (asks_for_any c.args.text.now)) [
  | inl is ↦ any is
  | inr is_not ↦
      let verdict = c.is_satisfied.ensures c.args.text.now is_not
      (rw c.in-Some.is at c.in_ok-range.ensures.accepted) (rw c.in-Some.is at c.in_ok-range.ensures.means) in
      rw c.if-is_satisfied.true at verdict
]

pub returns-in-Some : goal.returns-in-Some
returns-in-Some c = rw c.valid_for_any.ensures (or_any _ c.args.text.now Invalid (λ some.
    let verdict = c.is_satisfied.ensures c.args.text.now some
    (rw c.in-Some.is at c.in_ok-range.ensures.accepted) (rw c.in-Some.is at c.in_ok-range.ensures.means) in
    rw c.if-is_satisfied.false at verdict))

pub returns : goal.returns
returns c = rw (c.valid_for_any-in-None.ensures, c.verdict_of_no_range.ensures) (or_any _ c.args.text.now _
    (no_range _ c.args.text.now (rw c.in-None.is at c.in_ok-range.ensures.refused)))
