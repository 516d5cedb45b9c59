-- The answer that is told is the one that was made.
use Rattle.npm_c.specs.Answer as Telling
use Rattle.npm_c.proofs.call.npm_call.Goals as goal

pub returns-in-Ok : goal.returns-in-Ok
returns-in-Ok c = Telling.answered c.in-Ok.made c.tell.ensures
