use Rattle.std.proofs.Common.{[], All, take}
use Rattle.version_solving.specs.Documents.{problem_of}
use Rattle.version_solving.specs.Reasons.{IsMetBy}
use Rattle.version_solving.proofs.reasoning.check.rules_out.Given as goal

abbrev pub invariant-loop-term : goal.invariant-loop-term
invariant-loop-term l = All (IsMetBy (problem_of [] l.documents) l.name l.selected) (take l.term-index l.reason.terms.items)
