-- The events so far have these marks, and none of them has a fault.
use Rattle.std.proofs.Common.{◌≡◌, ◌++◌, List, drop}
use Rattle.serde_json.specs.View.{items_view}
use Rattle.npm_advisories.specs.Faults.{first_fault}
use Rattle.npm_advisories.specs.OsvFaults.{event_fault}
use Rattle.npm_advisories.specs.OsvForm.{events_of}
use Rattle.npm_advisories.specs.OsvRanges.{EventValue}
use Rattle.npm_advisories.specs.Private.OsvReading.{AreMarks}
use Rattle.npm_advisories.specs.Private.VersionTest.{is_version}
use Rattle.npm_advisories.proofs.osv.events.marks_of.Given as goal

abbrev pub invariant-loop-value : goal.invariant-loop-value
invariant-loop-value l = record {
  front : List EventValue;
  are : AreMarks front l.marks;
  rest : events_of (items_view l.events) ≡ front ++ events_of (items_view (drop l.value-index l.events));
  fault : first_fault (event_fault is_version) (items_view l.events)
      ≡ first_fault (event_fault is_version) (items_view (drop l.value-index l.events));
}
