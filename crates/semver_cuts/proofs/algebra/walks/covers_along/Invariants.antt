use Rattle.std.proofs.Common.{◌⊎◌, ◌+◌, ◌-◌, ◌≤◌, drop}
use Rattle.semver_cuts.specs.declared.cut.Cut.{Cut}
use Rattle.semver_cuts.specs.SpanLists.{IsInSome}
use Rattle.semver_cuts.proofs.algebra.walks.covers_along.Given as goal

abbrev pub invariant-loop-other_place : goal.invariant-loop-other_place
invariant-loop-other_place g l = record {
  place : l.place ≤ l.count;
  other_place : l.other_place ≤ l.other_count;
  covered : (cut : Cut g.row.T.Denot) → IsInSome g.T.Ord.cmp l.others.merged cut
      → IsInSome g.T.Ord.cmp l.ones.merged cut ⊎ IsInSome g.T.Ord.cmp (drop l.other_place l.others.merged) cut;
  passed : (cut : Cut g.row.T.Denot) → IsInSome g.T.Ord.cmp (drop l.other_place l.others.merged) cut
      → IsInSome g.T.Ord.cmp l.ones.merged cut → IsInSome g.T.Ord.cmp (drop l.place l.ones.merged) cut;
}

abbrev pub decreases-loop-other_place : goal.decreases-loop-other_place
decreases-loop-other_place g l = (l.count - l.place) + (l.other_count - l.other_place)
