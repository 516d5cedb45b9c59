use Rattle.std.proofs.Common.{[], All, take}
use Rattle.version_solving.specs.Documents.{problem_of}
use Rattle.version_solving.specs.Solving.{Holds}
use Rattle.version_solving.specs.Private.Paths.{in_table}
use Rattle.version_solving.proofs.witness.all_hold.Given as goal

abbrev pub invariant-loop-demand : goal.invariant-loop-demand
invariant-loop-demand l = All (Holds (problem_of [] l.documents) (in_table l.table)) (take l.demand-index l.demands)
