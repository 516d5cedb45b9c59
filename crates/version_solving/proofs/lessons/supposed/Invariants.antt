use Rattle.std.proofs.Common.{All}
use Rattle.version_solving.specs.Solving.{Selection}
use Rattle.version_solving.specs.Private.Values.{IsMet, Spares}
use Rattle.version_solving.proofs.lessons.supposed.Given as goal

abbrev pub invariant-loop-term : goal.invariant-loop-term
invariant-loop-term l = (s : Selection) → All (IsMet s) l.terms → Spares l.ruled.rows.items s
