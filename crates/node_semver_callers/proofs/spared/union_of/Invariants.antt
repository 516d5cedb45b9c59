-- The union admits the versions of each range so far, and has its cuts.
use Rattle.std.proofs.Common.{suc, take}
use Rattle.semver_cuts.specs.declared.cut.Cut.{Cut}
use Rattle.semver_cuts.specs.SpanLists.{IsInSome}
use Rattle.node_semver.specs.Versions.{version_cmp}
use Rattle.node_semver.specs.Ranges.{RangeAdmits}
use Rattle.node_semver.specs.Versions.{VersionValue}
use Rattle.node_semver_callers.proofs.UnionHits.{IsOfSome}
use Rattle.node_semver_callers.proofs.spared.union_of.Given as goal

abbrev pub invariant-loop-range : goal.invariant-loop-range
invariant-loop-range l = record {
  admitted : (v : VersionValue) → IsOfSome (λ range. RangeAdmits range v) l.union
      (take (suc l.range-index) l.fn.ranges);
  cuts : (cut : Cut VersionValue) →
      IsOfSome (λ range. IsInSome version_cmp range cut) l.union (take (suc l.range-index) l.fn.ranges);
}
