use Rattle.npm_sets.specs.Private.ReadViews.{some_seen}
use Rattle.npm_sets.proofs.Pieces.TextReading.{PiecesSoFar, left_length}
use Rattle.npm_sets.proofs.read.read_several.Given as goal

abbrev pub invariant-loop-left : goal.invariant-loop-left
invariant-loop-left l = PiecesSoFar l.options l.text (some_seen l.left) l.sets l.found

abbrev pub decreases-loop-left : goal.decreases-loop-left
decreases-loop-left l = left_length (some_seen l.left)
