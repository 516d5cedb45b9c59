-- The spans are those of the ranges so far, and none of these has a fault.
use Rattle.std.proofs.Common.{◌≡◌, ◌++◌, List, drop}
use Rattle.serde_json.specs.View.{items_view}
use Rattle.node_semver.specs.Ranges.{AnyByRecursion}
use Rattle.npm_advisories.specs.Faults.{first_fault}
use Rattle.npm_advisories.specs.OsvFaults.{osv_range_fault}
use Rattle.npm_advisories.specs.OsvForm.{ranges_of}
use Rattle.npm_advisories.specs.OsvRanges.{EventValue, IsInEvents}
use Rattle.npm_advisories.specs.Lemmas.Spans.{Have}
use Rattle.npm_advisories.specs.Private.VersionTest.{is_version}
use Rattle.npm_advisories.proofs.osv.affected.spans_of_ranges.Given as goal

abbrev pub invariant-loop-range : goal.invariant-loop-range
invariant-loop-range l = record {
  front : List (List EventValue);
  have : Have l.spans.items (λ v. AnyByRecursion (λ events. IsInEvents events v) front);
  rest : ranges_of (items_view l.ranges) ≡ front ++ ranges_of (items_view (drop l.range-index l.ranges));
  fault : first_fault (osv_range_fault is_version) (items_view l.ranges)
      ≡ first_fault (osv_range_fault is_version) (items_view (drop l.range-index l.ranges));
}
