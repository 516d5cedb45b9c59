-- The spans of one range more, or it is at fault.
use Rattle.std.proofs.Common.{◌++◌, ◌∷◌, [], List, if◌then◌else◌, codes, refl, rules}
use Rattle.serde_json.specs.Data.{Data}
use Rattle.serde_json.specs.View.{view}
use Rattle.npm_advisories.specs.OsvFaults.{osv_range_fault}
use Rattle.npm_advisories.specs.OsvForm.{events_of, has_versions, items_at, ranges_of}
use Rattle.npm_advisories.specs.OsvRanges.{EventValue, IsInEvents}
use Rattle.npm_advisories.specs.Private.VersionTest.{is_version}
use Rattle.npm_advisories.specs.Lemmas.Spans.{have-more, have-none}
use Rattle.npm_advisories.specs.Lemmas.Items.{fault-found, fault-passed, read-ended, read-passed}
use Rattle.npm_advisories.proofs.osv.affected.spans_of_ranges.Goals as goal

abbrev part : Data → List (List EventValue)
part range = if has_versions range then events_of (items_at (codes "events") range) ∷ [] else []

pub loop-range-init : goal.loop-range-init
loop-range-init c = record {
  front = [];
  have = rw c.new-spans.ensures.items (have-none (λ events v. IsInEvents events v));
  rest = refl;
  fault = refl;
}

pub loop-range-preserved : goal.loop-range-preserved
loop-range-preserved c =
    let value = part (view c.range-item.result) in
    record {
      front = c.loop-range.invariant.front ++ value;
      have = have-more (λ events v. IsInEvents events v) c.loop-range.invariant.front value c.loop-range.spans.items
          c.in_ok-more.more.items c.append.new.self.items c.in_ok-append.ensures.items c.loop-range.invariant.have
          c.in_ok-more.ensures.read;
      rest = read-passed c.args.ranges.now c.loop-range.range-index c.range-item.result c.loop-range-test.true
          c.range-item.is ranges_of part (λ d others. refl) _ c.loop-range.invariant.front c.loop-range.invariant.rest;
      fault = fault-passed c.args.ranges.now c.loop-range.range-index c.range-item.result c.loop-range-test.true
          c.range-item.is (osv_range_fault is_version) _ c.in_ok-more.ensures.sound c.loop-range.invariant.fault;
    }

pub returns-in_err-more-clause-refused : goal.returns-in_err-more-clause-refused
returns-in_err-more-clause-refused c =
    let fault = fault-found c.args.ranges.now c.loop-range.range-index c.range-item.result c.loop-range-test.true
    c.range-item.is
    (osv_range_fault is_version) _ c.in_err-more.field-0.0 c.in_err-more.ensures.refused c.loop-range.invariant.fault in
    search (rules, fault)

pub returns-clause-read : goal.returns-clause-read
returns-clause-read c =
    let all = read-ended c.args.ranges.now c.loop-range.range-index c.loop-range-test.false ranges_of refl _
    c.loop-range.invariant.front c.loop-range.invariant.rest in
    rw all c.loop-range.invariant.have
