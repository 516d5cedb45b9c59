-- Each step adds the versions of one more range.
use Rattle.semver_cuts.specs.SpanLists.{IsInSome}
use Rattle.node_semver.specs.Versions.{version_cmp}
use Rattle.node_semver.specs.Ranges.{RangeAdmits}
use Rattle.node_semver_callers.proofs.UnionHits.{of-all, of-first, of-next}
use Rattle.node_semver_callers.proofs.spared.union_of.Goals as goal

pub loop-range-init : goal.loop-range-init
loop-range-init c = record {
  admitted = λ v. of-first (λ range. RangeAdmits range v) c.args.ranges.now c.in-Some.first.now c.in-Some.others.now
      c.in-Some.ensures.cases.0 c.in_ok-union.union c.in_ok-union.ensures.copy;
  cuts = λ cut. of-first (λ range. IsInSome version_cmp range cut) c.args.ranges.now c.in-Some.first.now
      c.in-Some.others.now c.in-Some.ensures.cases.0 c.in_ok-union.union c.in_ok-union.ensures.copy;
}

pub loop-range-preserved : goal.loop-range-preserved
loop-range-preserved c = record {
  admitted = λ v. of-next (λ range. RangeAdmits range v) c.args.ranges.now c.in-Some.first.now c.in-Some.others.now
      c.in-Some.ensures.cases.0 c.loop-range.range-index c.loop-range.union c.range-item.result _ c.loop-range-test.true
      c.range-item.is (c.loop-range.invariant.admitted v)
      (c.in_ok-union-2.ensures.admitted v);
  cuts = λ cut. of-next (λ range. IsInSome version_cmp range cut) c.args.ranges.now c.in-Some.first.now
      c.in-Some.others.now c.in-Some.ensures.cases.0 c.loop-range.range-index c.loop-range.union c.range-item.result _
      c.loop-range-test.true c.range-item.is (c.loop-range.invariant.cuts cut)
      (c.in_ok-union-2.ensures.cuts cut);
}

pub returns-clause-admitted : goal.returns-clause-admitted
returns-clause-admitted c v =
    of-all (λ range. RangeAdmits range v) c.args.ranges.now c.in-Some.first.now c.in-Some.others.now
    c.in-Some.ensures.cases.0 c.loop-range.range-index c.loop-range.union c.loop-range-test.false
    (c.loop-range.invariant.admitted v)

pub returns-clause-cuts : goal.returns-clause-cuts
returns-clause-cuts c cut =
    of-all (λ range. IsInSome version_cmp range cut) c.args.ranges.now c.in-Some.first.now c.in-Some.others.now
    c.in-Some.ensures.cases.0 c.loop-range.range-index c.loop-range.union c.loop-range-test.false
    (c.loop-range.invariant.cuts cut)
