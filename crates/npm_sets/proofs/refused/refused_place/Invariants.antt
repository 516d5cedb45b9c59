use Rattle.npm_sets.specs.Private.ReadViews.{some_seen}
use Rattle.npm_sets.proofs.Pieces.TextReading.{left_length}
use Rattle.npm_sets.proofs.Places.RefusedTexts.{ArePassed}
use Rattle.npm_sets.proofs.refused.refused_place.Given as goal

abbrev pub invariant-loop-left : goal.invariant-loop-left
invariant-loop-left l = ArePassed l.options l.text (some_seen l.left)

abbrev pub decreases-loop-left : goal.decreases-loop-left
decreases-loop-left l = left_length (some_seen l.left)
