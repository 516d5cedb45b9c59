use Rattle.std.proofs.Common.{[], take}
use Rattle.version_solving.specs.Documents.{problem_of}
use Rattle.version_solving.specs.Private.Values.{AreOthersMet}
use Rattle.version_solving.proofs.ruled.Ruled.are_others_held.Given as goal

abbrev pub invariant-loop-term : goal.invariant-loop-term
invariant-loop-term l = AreOthersMet (problem_of [] l.documents) l.self.rows.items l.name (take l.term-index l.terms)
