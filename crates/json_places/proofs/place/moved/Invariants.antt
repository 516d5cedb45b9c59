-- The place so far is one of the text, and no further than the offset.
use Rattle.std.proofs.Common.{◌-◌, ◌≤◌}
use Rattle.json_places.specs.Places.{IsPlace}
use Rattle.json_places.proofs.place.moved.Given as goal

abbrev pub invariant-loop-place : goal.invariant-loop-place
invariant-loop-place l = IsPlace l.text l.place × (l.place.offset ≤ l.offset)

abbrev pub decreases-loop-place : goal.decreases-loop-place
decreases-loop-place l = l.offset - l.place.offset
