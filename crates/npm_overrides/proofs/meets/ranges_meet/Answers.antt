-- The sets of both are compared.
use Rattle.npm_overrides.specs.Ranges.{no_range, ranges}
use Rattle.npm_overrides.proofs.meets.ranges_meet.Goals as goal

pub returns-in-Some : goal.returns-in-Some
returns-in-Some c = ranges c.allows_any.result _ _ c.requires (rw c.in-Some.is at c.in_ok-ruled.ensures.some) c.allows_any.ensures.shared

pub returns-in-None : goal.returns-in-None
returns-in-None c = no_range c.requires.is_range (rw c.in-None.is at c.in_ok-ruled.ensures.none)
