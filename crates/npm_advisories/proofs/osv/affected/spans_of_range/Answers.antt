-- The spans of a range that has versions, or none.
use Rattle.std.proofs.Common.{◌≡◌, rules, true}
use Rattle.serde_json.specs.View.{view}
use Rattle.npm_advisories.specs.OsvForm.{has_versions}
use Rattle.npm_advisories.proofs.OsvMarks.{have-events, marks-cuts}
use Rattle.npm_advisories.proofs.osv.affected.spans_of_range.Goals as goal

pub spans_of_marks-requires : goal.spans_of_marks-requires
spans_of_marks-requires c = marks-cuts _ c.in_ok-marks.marks c.in_ok-marks.ensures.read

pub returns-clause-read : goal.returns-clause-read
returns-clause-read c =
    let versions : has_versions (view c.args.range.now) ≡ true = search rules in
    rw (versions, ← c.in_ok-events.ensures.items) (have-events _ c.in_ok-marks.marks c.in_ok-marks.ensures.read _
    c.in_ok-spans_of_marks.ensures)
