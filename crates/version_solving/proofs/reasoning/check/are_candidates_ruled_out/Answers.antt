use Rattle.std.proofs.Common.{[], ℕ, Some, below_more}
use Rattle.version_solving.specs.Documents.{problem_of}
use Rattle.version_solving.specs.Reasons.{IsRuledOut}
use Rattle.version_solving.proofs.reasoning.check.are_candidates_ruled_out.Goals as goal

pub loop-candidate-preserved : goal.loop-candidate-preserved
loop-candidate-preserved c =
    below_more (λ (k : ℕ). IsRuledOut (problem_of [] c.args.documents.now) c.args.above.now c.args.name c.args.lines.now (Some k))
    c.loop-candidate.candidate c.loop-candidate.invariant (c.is_ruled_out.ensures.0 c.if-not-is_ruled_out.false)
