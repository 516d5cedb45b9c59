-- Each branch is a case of the definition.
use Rattle.std.proofs.Common.{◌∙◌, ap, subst, sym}
use Rattle.std.proofs.lemmas.Result.{IfOk-weaker}
use Rattle.npm_texts.specs.SpecGrammar.{IsSpec, spec_value}
use Rattle.npm_overrides.specs.Ranges.{all, elsewhere, never, of_text}
use Rattle.npm_overrides.proofs.meets.meets.Goals as goal

pub returns-then-eq : goal.returns-then-eq
returns-then-eq c = all (sym c.eq.ensures ∙ c.if-eq.true)

pub returns-in-Text : goal.returns-in-Text
returns-in-Text c = IfOk-weaker c.texts_meet.result _ _
    (λ met is. of_text met _ (sym c.eq.ensures ∙ c.if-eq.false)
    (subst (IsSpec c.args.spec.now) (ap spec_value c.in-Text.is) c.spec_of.ensures.written) is) c.texts_meet.ensures

pub returns-in-Location : goal.returns-in-Location
returns-in-Location c = elsewhere (sym c.eq.ensures ∙ c.if-eq.false)
    (subst (IsSpec c.args.spec.now) (ap spec_value c.in-Location.is) c.spec_of.ensures.written)

pub returns-in-Refused : goal.returns-in-Refused
returns-in-Refused c = never (sym c.eq.ensures ∙ c.if-eq.false)
    (subst (IsSpec c.args.spec.now) (ap spec_value c.in-Refused.is) c.spec_of.ensures.written)
