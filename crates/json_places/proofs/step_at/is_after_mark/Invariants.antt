-- White space alone stands between here and the offset.
use Rattle.std.proofs.Common.{◌≤◌, length}
use Rattle.json_places.specs.Places.{IsAfterMark}
use Rattle.json_places.proofs.step_at.is_after_mark.Given as goal

abbrev pub invariant-loop-at : goal.invariant-loop-at
invariant-loop-at l = (l.at ≤ length l.text) × (IsAfterMark l.text l.at → IsAfterMark l.text l.offset)

abbrev pub decreases-loop-at : goal.decreases-loop-at
decreases-loop-at l = l.at
