use Rattle.std.proofs.Common.{◌<◌, ℕ, IfSome, slice_get, take}
use Rattle.version_solving.specs.Documents.{problem_of}
use Rattle.version_solving.specs.Reasons.{IsJustified}
use Rattle.version_solving.proofs.reasoning.check.are_justified.Given as goal

abbrev pub invariant-loop-place : goal.invariant-loop-place
invariant-loop-place l =
    (k : ℕ) → k < l.place
    → IfSome (slice_get l.lines k) (λ line. IsJustified (problem_of l.root l.documents) (take k l.lines) line.source line.terms.items)
