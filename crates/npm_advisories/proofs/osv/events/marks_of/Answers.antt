-- One event more has a mark, or is at fault.
use Rattle.std.proofs.Common.{◌≡◌, ◌++◌, ◌∷◌, [], Some, refl, rules}
use Rattle.std.specs.Option.{option_map_or}
use Rattle.serde_json.specs.View.{view}
use Rattle.npm_advisories.specs.OsvFaults.{event_fault}
use Rattle.npm_advisories.specs.OsvForm.{event_of, events_of}
use Rattle.npm_advisories.specs.Private.OsvReading.{event_value}
use Rattle.npm_advisories.specs.Private.VersionTest.{is_version}
use Rattle.npm_advisories.proofs.OsvMarks.{marks-more, marks-none}
use Rattle.npm_advisories.specs.Lemmas.Items.{fault-passed, read-passed}
use Rattle.npm_advisories.proofs.osv.events.marks_of.Goals as goal

pub loop-value-init : goal.loop-value-init
loop-value-init c = record {
  front = [];
  are = marks-none c.new-marks.result c.new-marks.ensures.starts c.new-marks.ensures.ends c.new-marks.ensures.limits;
  rest = refl;
  fault = refl;
}

pub loop-value-preserved : goal.loop-value-preserved
loop-value-preserved c =
    let event = event_value c.in-Some.event in
    let is : event_of (view c.value-item.result) ≡ Some event = search rules in
    record {
      front = c.loop-value.invariant.front ++ event ∷ [];
      are = marks-more c.loop-value.invariant.front event c.in_ok-mark.mark c.loop-value.marks _
          c.in_ok-mark.ensures.read c.in_ok-add.ensures c.loop-value.invariant.are;
      rest = let more = read-passed c.args.events.now c.loop-value.value-index c.value-item.result
          c.loop-value-test.true c.value-item.is events_of (λ d. option_map_or (λ e. e ∷ []) (event_of d) [])
          (λ d others. refl) _ c.loop-value.invariant.front c.loop-value.invariant.rest in rw is at more;
      fault = fault-passed c.args.events.now c.loop-value.value-index c.value-item.result c.loop-value-test.true
          c.value-item.is (event_fault is_version) _ (rw is c.in_ok-mark.ensures.sound) c.loop-value.invariant.fault;
    }
