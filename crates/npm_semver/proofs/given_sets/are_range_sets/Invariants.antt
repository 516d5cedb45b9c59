use Rattle.std.proofs.Common.{take}
use Rattle.std.specs.List.{AllByRecursion}
use Rattle.semver_sets.specs.RangeSets.{IsRangeSet}
use Rattle.npm_semver.proofs.given_sets.are_range_sets.Given as goal

abbrev pub invariant-sets : goal.invariant-sets
invariant-sets l = AllByRecursion IsRangeSet (take l.set-index l.sets)
