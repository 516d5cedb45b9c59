-- What counts is of all that is hit.
use Rattle.std.proofs.Common.{map}
use Rattle.npm_advisories.specs.Audit.{found_value}
use Rattle.npm_lock_check.proofs.checks.hits.counted_of.Goals as goal

pub returns-in-Ok-counted_hits-clause-found : goal.returns-in-Ok-counted_hits-clause-found
returns-in-Ok-counted_hits-clause-found c = (
  map found_value c.in-Ok.found.items,
  c.in-Ok.ensures.found,
  rw c.file.ensures.file at c.in-Ok-counted_hits.ensures,
)
