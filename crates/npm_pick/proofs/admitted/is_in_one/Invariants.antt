-- The version satisfies one of the ranges if it satisfies one of those that are left.
use Rattle.std.proofs.Common.{◌↔◌, drop}
use Rattle.npm_pick.specs.Private.Keeping.{IsInOne}
use Rattle.npm_pick.proofs.admitted.is_in_one.Given as goal

abbrev pub invariant-loop-range : goal.invariant-loop-range
invariant-loop-range l = IsInOne (drop l.range-index l.ranges) l.version ↔ IsInOne l.ranges l.version
