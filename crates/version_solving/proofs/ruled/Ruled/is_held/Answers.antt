use Rattle.std.proofs.Common.{[], arith}
use Rattle.version_solving.specs.Documents.{problem_of}
use Rattle.version_solving.proofs.Ruling.{held}
use Rattle.version_solving.proofs.ruled.Ruled.is_held.Goals as goal

pub returns : goal.returns
returns c = λ yes. held (problem_of [] c.args.documents.now) c.args.self.now.rows.items c.args.term.now
    (c.is_out_or_in.ensures c.if-not-is_out_or_in.false)
    (λ k small. c.loop-candidate.invariant k (omega arith))
