use Rattle.std.specs.Str.Iter.{chars_rest}
use Rattle.npm_sets.proofs.Places.PlainPlaces.{CharactersPassed}
use Rattle.npm_sets.proofs.spaces.length_before.Given as goal

abbrev pub invariant-loop-left : goal.invariant-loop-left
invariant-loop-left l = CharactersPassed l.text l.place l.left (chars_rest l.rest)

abbrev pub decreases-loop-left : goal.decreases-loop-left
decreases-loop-left l = l.left
