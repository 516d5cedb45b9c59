use Rattle.std.proofs.Common.{take}
use Rattle.node_semver_c.specs.Sets.{AreSetsGiven}
use Rattle.node_semver_c.proofs.sets.spans_of.Given as goal

abbrev pub invariant-sets : goal.invariant-sets
invariant-sets l = AreSetsGiven (take l.set-index l.sets) l.spans.items
