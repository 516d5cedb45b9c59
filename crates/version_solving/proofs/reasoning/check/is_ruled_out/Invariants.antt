use Rattle.std.proofs.Common.{[], All, IsSomeAnd, slice_get, take}
use Rattle.version_solving.specs.Documents.{problem_of}
use Rattle.version_solving.specs.Reasons.{RulesOut}
use Rattle.version_solving.proofs.reasoning.check.is_ruled_out.Given as goal

abbrev pub invariant-loop-line : goal.invariant-loop-line
invariant-loop-line l =
    All (λ line. IsSomeAnd (slice_get l.above line) (RulesOut (problem_of [] l.documents) l.name l.selected) → ⊥) (take l.line-index l.lines)
