-- Each branch is a case of the definition.
use Rattle.std.proofs.Common.{ap, subst}
use Rattle.std.proofs.lemmas.Result.{IfOk-weaker}
use Rattle.npm_texts.specs.SpecGrammar.{IsSpec, spec_value}
use Rattle.npm_lock.specs.Verdict.{elsewhere, never, of_text}
use Rattle.npm_lock.proofs.verdict.verdict_of.Goals as goal

pub returns-in-Location : goal.returns-in-Location
returns-in-Location c = elsewhere (subst (IsSpec c.args.spec.now) (ap spec_value c.in-Location.is) c.spec_of.ensures.written)

pub returns-in-Refused : goal.returns-in-Refused
returns-in-Refused c = never (subst (IsSpec c.args.spec.now) (ap spec_value c.in-Refused.is) c.spec_of.ensures.written)

pub returns-in-Text : goal.returns-in-Text
returns-in-Text c = IfOk-weaker c.verdict_of_text-in-Text.result _ _
    (λ verdict judged. of_text _ verdict (subst (IsSpec c.args.spec.now) (ap spec_value c.in-Text.is) c.spec_of.ensures.written) judged)
    c.verdict_of_text-in-Text.ensures

pub returns-then-is_plain_range : goal.returns-then-is_plain_range
returns-then-is_plain_range c = IfOk-weaker c.verdict_of_text.result _ _
    (λ verdict judged. of_text _ verdict (c.is_plain_range.ensures c.if-is_plain_range.true) judged)
    c.verdict_of_text.ensures
