-- One term more is of the name, or is met.
use Rattle.std.proofs.Common.{◌≢◌, All, subst}
use Rattle.std.proofs.lemmas.List.{take_all}
use Rattle.std.proofs.lemmas.List.Elements.{All-more}
use Rattle.version_solving.specs.declared.certificate.Term.{Term}
use Rattle.version_solving.specs.Private.Values.{IsMet}
use Rattle.version_solving.proofs.ruled.Ruled.are_others_held.Goals as goal
use Rattle.version_solving.proofs.ruled.Ruled.are_others_held.Goals.{else-term-name-via-then-term-name+else-not-is_held, else-term-name-via-else-term-name}

pub loop-term-preserved : goal.loop-term-preserved
loop-term-preserved c = λ s fits spares.
    let here : c.term-item.result.name ≢ c.args.name → IsMet s c.term-item.result = elim c.else-term-name.branch [
      | else-term-name-via-then-term-name+else-not-is_held w ↦ λ other. w.is_held.ensures w.if-not-is_held.false s fits spares
      | else-term-name-via-else-term-name w ↦ λ other. absurd (other w.if-term-name.false)
    ] in
    All-more (λ (t : Term). t.name ≢ c.args.name → IsMet s t) c.args.terms.now c.loop-term.term-index c.term-item.result
    c.loop-term-test.true (c.loop-term.invariant s fits spares)
    (subst (λ (t : Term). t.name ≢ c.args.name → IsMet s t) c.term-item.is here)

pub returns : goal.returns
returns c = λ yes s fits spares. subst (All (λ (t : Term). t.name ≢ c.args.name → IsMet s t))
    (take_all c.loop-term.term-index c.args.terms.now c.loop-term-test.false) (c.loop-term.invariant s fits spares)
