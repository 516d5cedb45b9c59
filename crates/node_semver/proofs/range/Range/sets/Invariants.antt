use Rattle.std.proofs.Common.{◌≡◌, take}
use Rattle.node_semver.proofs.range.Range.sets.Given as goal

abbrev pub invariant-sets : goal.invariant-sets
invariant-sets l = l.spans.items ≡ take l.set-index l.sets
