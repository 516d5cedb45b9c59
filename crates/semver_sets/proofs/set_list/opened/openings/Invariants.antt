use Rattle.std.proofs.Common.{◌≡◌, ◌++◌, drop}
use Rattle.semver_sets.specs.Private.SearchViews.{openings_from}
use Rattle.semver_sets.proofs.set_list.opened.openings.Given as goal

abbrev pub invariant-sets : goal.invariant-sets
invariant-sets l = l.openings.items ++ openings_from l.place (drop l.place l.sets) ≡ openings_from 0 l.sets
