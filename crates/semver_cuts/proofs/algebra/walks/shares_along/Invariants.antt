use Rattle.std.proofs.Common.{◌+◌, ◌-◌, ◌≤◌, drop}
use Rattle.semver_cuts.specs.declared.cut.Cut.{Cut}
use Rattle.semver_cuts.specs.SpanLists.{IsInSome}
use Rattle.semver_cuts.proofs.algebra.walks.shares_along.Given as goal

abbrev pub invariant-loop-place : goal.invariant-loop-place
invariant-loop-place g l = record {
  place : l.place ≤ l.count;
  other_place : l.other_place ≤ l.other_count;
  left : (cut : Cut g.row.T.Denot) → IsInSome g.T.Ord.cmp l.ones.merged cut
      → IsInSome g.T.Ord.cmp l.others.merged cut → IsInSome g.T.Ord.cmp (drop l.place l.ones.merged) cut
      × IsInSome g.T.Ord.cmp (drop l.other_place l.others.merged) cut;
}

abbrev pub decreases-loop-place : goal.decreases-loop-place
decreases-loop-place g l = (l.count - l.place) + (l.other_count - l.other_place)
