-- A tag has no range.
use Rattle.npm_overrides.specs.Ranges.{tag}
use Rattle.npm_overrides.proofs.meets.texts_meet.Goals as goal

pub returns-in-None : goal.returns-in-None
returns-in-None c = tag (rw c.in-None.is at c.in_ok-asked.ensures.none)
