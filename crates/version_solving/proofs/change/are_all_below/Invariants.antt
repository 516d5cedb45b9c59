use Rattle.std.proofs.Common.{take}
use Rattle.version_solving.specs.Private.Changes.{AreAllBelow}
use Rattle.version_solving.proofs.change.are_all_below.Given as goal

abbrev pub invariant-loop-candidate : goal.invariant-loop-candidate
invariant-loop-candidate l = AreAllBelow l.number (take l.candidate-index l.candidates)
