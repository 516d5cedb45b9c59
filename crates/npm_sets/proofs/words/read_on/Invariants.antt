use Rattle.std.proofs.Common.{length}
use Rattle.npm_sets.proofs.Chunks.WordParts.{IsPassed}
use Rattle.npm_sets.proofs.words.read_on.Given as goal

abbrev pub invariant-loop-chunk : goal.invariant-loop-chunk
invariant-loop-chunk l = IsPassed (l.fn.lead, l.fn.operand) l.fn.ending l.text (l.lead, l.operand) l.ending l.rest

abbrev pub decreases-loop-chunk : goal.decreases-loop-chunk
decreases-loop-chunk l = length l.rest
