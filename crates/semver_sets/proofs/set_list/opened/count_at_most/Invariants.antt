-- No opening so far has a greater triple.
use Rattle.std.proofs.Common.{◌≡◌, take, true}
use Rattle.std.specs.List.{AllByRecursion}
use Rattle.semver_sets.proofs.Sets.OpeningOrder.{is_at_most}
use Rattle.semver_sets.proofs.set_list.opened.count_at_most.Given as goal

abbrev pub invariant-loop-place : goal.invariant-loop-place
invariant-loop-place l = AllByRecursion (λ o. is_at_most l.triple o ≡ true) (take l.place l.openings)
