use Rattle.std.proofs.Common.{◌≤◌, ◌*◌}
use Rattle.semver_sets.proofs.set_list.opened.count_of.Given as goal

abbrev pub invariant-sets : goal.invariant-sets
invariant-sets l = l.count ≤ 2 * l.set-index
