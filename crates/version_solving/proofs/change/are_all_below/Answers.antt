-- The demands of one candidate more have ranges below the number.
use Rattle.std.proofs.Common.{subst}
use Rattle.std.specs.List.{All}
use Rattle.std.proofs.lemmas.List.{take_all}
use Rattle.std.proofs.lemmas.List.Elements.{All-more}
use Rattle.version_solving.specs.declared.documents.Candidate.{Candidate}
use Rattle.version_solving.specs.Private.Changes.{AreBelow}
use Rattle.version_solving.proofs.change.are_all_below.Goals as goal

pub loop-candidate-preserved : goal.loop-candidate-preserved
loop-candidate-preserved c = All-more (λ (one : Candidate). AreBelow c.args.number one.demands.items) c.args.candidates.now
    c.loop-candidate.candidate-index c.candidate-item.result c.loop-candidate-test.true c.loop-candidate.invariant
    (subst (λ (one : Candidate). AreBelow c.args.number one.demands.items) c.candidate-item.is
    (subst (AreBelow c.args.number) c.deref.ensures.value (c.are_below.ensures c.if-not-are_below.false)))

pub returns : goal.returns
returns c = λ yes. subst (All (λ (one : Candidate). AreBelow c.args.number one.demands.items))
    (take_all c.loop-candidate.candidate-index c.args.candidates.now c.loop-candidate-test.false) c.loop-candidate.invariant
