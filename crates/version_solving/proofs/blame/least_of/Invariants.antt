use Rattle.version_solving.specs.Documents.{problem_of}
use Rattle.version_solving.specs.Private.Missed.{AreMissed}
use Rattle.version_solving.proofs.blame.least_of.Given as goal

abbrev pub invariant-loop-at : goal.invariant-loop-at
invariant-loop-at l = AreMissed (problem_of l.root l.documents) l.at l.kept.items
