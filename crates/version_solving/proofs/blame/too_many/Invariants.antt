use Rattle.version_solving.specs.Documents.{problem_of}
use Rattle.version_solving.specs.Private.Missed.{AreTooMany}
use Rattle.version_solving.proofs.blame.too_many.Given as goal

abbrev pub invariant-loop : goal.invariant-loop
invariant-loop l = AreTooMany (problem_of l.fn.root l.documents) l.kept.items
