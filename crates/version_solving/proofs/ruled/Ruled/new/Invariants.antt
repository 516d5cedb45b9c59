use Rattle.version_solving.specs.Solving.{Selection}
use Rattle.version_solving.specs.Private.Values.{Spares}
use Rattle.version_solving.proofs.ruled.Ruled.new.Given as goal

abbrev pub invariant-loop : goal.invariant-loop
invariant-loop l = (s : Selection) → Spares l.rows.items s
