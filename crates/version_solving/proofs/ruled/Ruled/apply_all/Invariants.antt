use Rattle.version_solving.specs.Documents.{problem_of}
use Rattle.version_solving.specs.Solving.{Fits, Selection}
use Rattle.version_solving.specs.Private.Values.{Spares}
use Rattle.version_solving.proofs.ruled.Ruled.apply_all.Given as goal

abbrev pub invariant-loop-step : goal.invariant-loop-step
invariant-loop-step l = (s : Selection) → Fits (problem_of l.root l.documents) s → Spares l.initial.self.rows.items s → Spares l.self.rows.items s
