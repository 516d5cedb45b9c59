use Rattle.std.proofs.Common.{length}
use Rattle.npm_sets.proofs.Pieces.WordReading.{WordsSoFar}
use Rattle.npm_sets.proofs.piece.merge_words.Given as goal

abbrev pub invariant-loop-rest : goal.invariant-loop-rest
invariant-loop-rest l = WordsSoFar l.options l.text l.rest l.common l.found

abbrev pub decreases-loop-rest : goal.decreases-loop-rest
decreases-loop-rest l = length l.rest
