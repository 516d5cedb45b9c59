use Rattle.std.proofs.Common.{◌≤◌, ◌+◌, length}
use Rattle.semver_keys.proofs.read.identifier.part_count.Given as goal

abbrev pub invariant-parts : goal.invariant-parts
invariant-parts l = l.count + length l.rest ≤ length l.key

abbrev pub decreases-parts : goal.decreases-parts
decreases-parts l = length l.rest
