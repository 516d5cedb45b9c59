use Rattle.std.proofs.Common.{[], ◌∙◌, arith, sym}
use Rattle.version_solving.specs.Documents.{problem_of}
use Rattle.version_solving.proofs.Ruling.{forward}
use Rattle.version_solving.proofs.ruled.Ruled.excludes_forward.Goals as goal

pub returns : goal.returns
returns c = λ yes. forward (problem_of [] c.args.documents.now) c.args.self.now.rows.items c.args.asker c.args.name c.args.value
    (sym c.is_out.ensures ∙ c.if-not-is_out.false)
    (λ k small. c.loop-candidate.invariant k (omega arith))
