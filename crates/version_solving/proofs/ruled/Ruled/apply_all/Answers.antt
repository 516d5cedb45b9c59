use Rattle.version_solving.proofs.ruled.Ruled.apply_all.Goals as goal

pub returns-then-branch : goal.returns-then-branch
returns-then-branch c = λ yes s fits spares. c.in_ok-apply.ensures.over c.if-branch.true s fits (c.loop-step.invariant s fits spares)
