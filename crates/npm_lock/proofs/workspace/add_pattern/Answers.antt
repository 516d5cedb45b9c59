-- The pattern of a text is added.
use Rattle.std.proofs.lemmas.Result.{on_ok_weaker}
use Rattle.npm_lock.proofs.workspace.add_pattern.Goals as goal

pub returns-in-Some-clause-matched : goal.returns-in-Some-clause-matched
returns-in-Some-clause-matched c = on_ok_weaker c.add.result
    (λ more. rw (← c.in-Some.ensures, ← c.pattern_of.ensures) more) c.add.ensures.matched
