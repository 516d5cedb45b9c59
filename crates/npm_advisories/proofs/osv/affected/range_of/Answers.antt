-- The range of the spans of both.
use Rattle.serde_json.specs.View.{view}
use Rattle.npm_advisories.specs.OsvForm.{osv_affected}
use Rattle.npm_advisories.specs.Lemmas.Spans.{have-either}
use Rattle.npm_advisories.proofs.OsvSpans.{range-of}
use Rattle.npm_advisories.proofs.osv.affected.range_of.Goals as goal

pub returns-clause-range : goal.returns-clause-range
returns-clause-range c =
    let ranges = rw c.in_ok-ranges.ensures.items at c.in_ok-spans.ensures.read in
    let versions = rw c.in_ok-versions.ensures.items at c.in_ok-listed.ensures.read in
    let both = have-either _ _ c.in_ok-spans.spans.items c.in_ok-listed.listed.items ranges versions in
    let sets = rw c.deref.ensures.value at c.in_ok-range_from_sets.ensures in
    range-of (osv_affected (view c.args.one.now)) c.append.new.self.items c.in_ok-range_from_sets.field-0
    (rw c.in_ok-append.ensures.items both) sets.sets sets.some sets.none
