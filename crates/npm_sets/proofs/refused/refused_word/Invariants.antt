use Rattle.std.proofs.Common.{length}
use Rattle.npm_sets.proofs.Places.RefusedWords.{WordsPassed}
use Rattle.npm_sets.proofs.refused.refused_word.Given as goal

abbrev pub invariant-loop-rest : goal.invariant-loop-rest
invariant-loop-rest l = WordsPassed l.options l.piece l.rest

abbrev pub decreases-loop-rest : goal.decreases-loop-rest
decreases-loop-rest l = length l.rest
