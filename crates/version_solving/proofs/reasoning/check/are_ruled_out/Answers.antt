use Rattle.std.proofs.Common.{[], Some}
use Rattle.version_solving.specs.Documents.{problem_of}
use Rattle.version_solving.proofs.Sound.{each_value}
use Rattle.version_solving.proofs.reasoning.check.are_ruled_out.Goals as goal

pub returns-then-is_ruled_out : goal.returns-then-is_ruled_out
returns-then-is_ruled_out c = (
  λ yes. each_value (problem_of [] c.args.documents.now) c.args.above.now c.args.name c.args.lines.now
      (c.is_ruled_out.ensures.0 c.if-is_ruled_out.true) (c.are_candidates_ruled_out.ensures.0 yes),
  λ each. c.are_candidates_ruled_out.ensures.1 (λ candidate small. each (Some candidate) small),
)
