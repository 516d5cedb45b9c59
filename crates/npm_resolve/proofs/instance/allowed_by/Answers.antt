-- Whether one candidate more is allowed.
use Rattle.std.specs.Prelude.{◌↔◌, Bool, IsTrue}
use Rattle.std.proofs.lemmas.List.{take_all}
use Rattle.npm_resolve.specs.Meanings.{IsAdmitted}
use Rattle.npm_resolve.specs.declared.candidates.candidate.Candidate.{Candidate}
use Rattle.npm_pick.specs.Lemmas.Zips.{item_more}
use Rattle.npm_resolve.proofs.instance.allowed_by.Goals as goal

pub loop-candidate-preserved : goal.loop-candidate-preserved
loop-candidate-preserved c = λ value means. rw c.in_ok-push.ensures.items (item_more
    (λ (candidate : Candidate) (allowed : Bool). IsTrue allowed ↔ IsAdmitted value candidate)
    c.args.candidates.now c.loop-candidate.allowed.items c.loop-candidate.candidate-index
    c.candidate-item.result c.allows.result c.loop-candidate-test.true c.candidate-item.is
    (c.loop-candidate.invariant value means) (c.allows.ensures value means))

pub returns : goal.returns
returns c = λ value means.
    rw (take_all c.loop-candidate.candidate-index c.args.candidates.now c.loop-candidate-test.false) at
    (c.loop-candidate.invariant value means)
