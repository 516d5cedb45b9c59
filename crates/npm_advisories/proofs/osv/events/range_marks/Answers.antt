-- The marks of the events, and those where faults go on.
use Rattle.std.proofs.Common.{refl}
use Rattle.serde_json.specs.View.{items_view}
use Rattle.npm_advisories.specs.OsvForm.{events_of}
use Rattle.npm_advisories.proofs.OsvMarks.{marks-going}
use Rattle.npm_advisories.proofs.osv.events.range_marks.Goals as goal

pub returns-clause-read : goal.returns-clause-read
returns-clause-read c = marks-going (events_of (items_view c.args.events.now)) c.in_ok-marks.marks _ c.in_ok-more.more.items
    c.in_ok-marks.ensures.read c.in_ok-more.ensures c.in_ok-append.ensures.items refl refl
