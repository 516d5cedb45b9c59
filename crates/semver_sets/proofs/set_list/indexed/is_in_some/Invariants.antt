use Rattle.std.proofs.Common.{ℕ, ◌+◌, ◌-◌, ◌<◌, ◌≤◌, ◌^◌, drop, length, take}
use Rattle.std.specs.List.{AllByRecursion}
use Rattle.semver_cuts.specs.declared.cut.Cut.TheVariants.{Before}
use Rattle.semver_cuts.specs.Ends.{IsCutAtMost, IsCutBelow}
use Rattle.semver_texts.specs.Comparison.{version_cmp}
use Rattle.semver_sets.proofs.Sets.Searching.{IsLeft}
use Rattle.semver_sets.proofs.set_list.indexed.is_in_some.Given as goal

abbrev pub invariant-loop-low : goal.invariant-loop-low
invariant-loop-low g l = record {
  ordered : l.low ≤ l.high;
  within : l.high ≤ length l.spans.merged;
  below : AllByRecursion (λ s. IsCutAtMost version_cmp s.lower (Before (g.V.AsVersion.seen l.version)))
      (take l.low l.spans.merged);
  above : AllByRecursion (λ s. IsCutBelow version_cmp (Before (g.V.AsVersion.seen l.version)) s.lower)
      (drop l.high l.spans.merged);
  steps : (digits : ℕ) → length l.spans.merged < 2 ^ digits
      → IsLeft (g.C.Counts.count l.fn.comparisons) (g.C.Counts.count l.comparisons) digits (l.high - l.low);
  adds : g.C.Counts.count l.fn.comparisons ≤ g.C.Counts.count l.comparisons;
  begun : 0 < l.low → g.C.Counts.count l.fn.comparisons + 1 ≤ g.C.Counts.count l.comparisons;
}

abbrev pub decreases-loop-low : goal.decreases-loop-low
decreases-loop-low g l = l.high - l.low
