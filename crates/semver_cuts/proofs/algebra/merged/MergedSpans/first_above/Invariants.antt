use Rattle.std.proofs.Common.{◌-◌, ◌≤◌, length, take, drop}
use Rattle.std.specs.List.{AllByRecursion}
use Rattle.semver_cuts.specs.Ends.{IsCutAtMost, IsCutBelow}
use Rattle.semver_cuts.proofs.algebra.merged.MergedSpans.first_above.Given as goal

abbrev pub invariant-loop-low : goal.invariant-loop-low
invariant-loop-low g l = record {
  ordered : l.low ≤ l.high;
  within : l.high ≤ length (l.self.merged);
  below : AllByRecursion (λ s. IsCutAtMost g.T.Ord.cmp s.upper l.cut) (take l.low (l.self.merged));
  above : AllByRecursion (λ s. IsCutBelow g.T.Ord.cmp l.cut s.upper) (drop l.high (l.self.merged));
}

abbrev pub decreases-loop-low : goal.decreases-loop-low
decreases-loop-low g l = l.high - l.low
