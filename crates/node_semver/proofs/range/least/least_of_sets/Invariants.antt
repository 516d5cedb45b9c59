use Rattle.std.proofs.Common.{take}
use Rattle.node_semver.specs.Private.LeastViews.{IsLeastOfSets}
use Rattle.node_semver.proofs.range.least.least_of_sets.Given as goal

abbrev pub invariant-sets : goal.invariant-sets
invariant-sets l = IsLeastOfSets l.included (take l.set-index l.sets) l.least
