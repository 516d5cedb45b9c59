use Rattle.npm_pick.proofs.admitted.wanted_range.Goals as goal

pub returns : goal.returns
returns c = rw c.filled.ensures at c.plain_range.ensures
