use Rattle.std.proofs.Common.{All, take}
use Rattle.version_solving.specs.Reasons.{IsKept}
use Rattle.version_solving.proofs.reasoning.check.keeps_others.Given as goal

abbrev pub invariant-loop-term : goal.invariant-loop-term
invariant-loop-term l = All (IsKept l.name l.terms) (take l.term-index l.reason.terms.items)
