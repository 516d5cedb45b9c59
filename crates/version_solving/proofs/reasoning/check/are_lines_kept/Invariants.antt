use Rattle.std.proofs.Common.{All, IsSomeAnd, slice_get, take}
use Rattle.version_solving.specs.Reasons.{KeepsOthers}
use Rattle.version_solving.proofs.reasoning.check.are_lines_kept.Given as goal

abbrev pub invariant-loop-line : goal.invariant-loop-line
invariant-loop-line l = All (λ line. IsSomeAnd (slice_get l.above line) (KeepsOthers l.name l.terms)) (take l.line-index l.lines)
