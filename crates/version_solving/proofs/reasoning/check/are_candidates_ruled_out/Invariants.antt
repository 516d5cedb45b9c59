use Rattle.std.proofs.Common.{[], ◌<◌, ℕ, Some}
use Rattle.version_solving.specs.Documents.{problem_of}
use Rattle.version_solving.specs.Reasons.{IsRuledOut}
use Rattle.version_solving.proofs.reasoning.check.are_candidates_ruled_out.Given as goal

abbrev pub invariant-loop-candidate : goal.invariant-loop-candidate
invariant-loop-candidate l =
    (k : ℕ) → k < l.candidate → IsRuledOut (problem_of [] l.documents) l.above l.name l.lines (Some k)
