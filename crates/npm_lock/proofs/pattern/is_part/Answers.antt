-- The part is one that `*` matches.
use Rattle.npm_lock.proofs.Globs.Lists.{part-is}
use Rattle.npm_lock.proofs.pattern.is_part.Goals as goal

pub returns : goal.returns
returns c = part-is c.args.rest.now c.is_rest.result (rw c.as_bytes.ensures.value at c.is_rest.ensures)
