-- The first, and the worst of the others.
use Rattle.std.proofs.lemmas.List.{nil_from_length}
use Rattle.npm_lock_check.specs.Files.{of_none, one_more}
use Rattle.npm_lock_check.proofs.runs.status.+worst_of.Goals as goal

pub returns-in-Some : goal.returns-in-Some
returns-in-Some t c =
    rw (c.in-Some.ensures.cases.0, c.worse_of.ensures) (one_more _ _ _ _ c.one_status.ensures c.worst_of.ensures)

pub returns-in-None : goal.returns-in-None
returns-in-None t c = rw (nil_from_length c.args.outcomes.now c.in-None.ensures.cases) of_none
