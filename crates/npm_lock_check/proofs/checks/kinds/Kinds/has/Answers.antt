-- The word is that of the kind.
use Rattle.npm_lock_check.proofs.checks.kinds.Kinds.has.Goals as goal

pub returns : goal.returns
returns c = rw c.as_str.ensures at c.is_among.ensures
