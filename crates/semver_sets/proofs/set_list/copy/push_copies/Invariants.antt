use Rattle.std.proofs.Common.{◌≡◌, ◌++◌, take}
use Rattle.semver_sets.proofs.set_list.copy.push_copies.Given as goal

abbrev pub invariant-sets : goal.invariant-sets
invariant-sets l = l.copies.items ≡ l.fn.copies.items ++ take l.set-index l.sets
