use Rattle.std.proofs.Common.{ℕ, List, ◌++◌, drop}
use Rattle.semver_pairs.specs.Private.Answering.{Moves}
use Rattle.semver_pairs.proofs.FailureLemmas.{on_err}
use Rattle.semver_pairs.proofs.OutputLemmas.{moves-part}
use Rattle.semver_pairs.proofs.answers.Answers.put.Goals as goal

pub returns-in_err-flush-clause-part : goal.returns-in_err-flush-clause-part
returns-in_err-flush-clause-part g c =
    let part = c.in_err-flush.ensures.part in
    let whole : (left : List ℕ) × Moves (g.W.Write.contents c.args.writer.now.inner)
    (g.W.Write.contents c.flush.new.writer.inner) c.args.self.now c.args.line.now left = (
      drop part.0 c.args.self.now ++ c.args.line.now,
      moves-part part.0 part.1,
    ) in
    on_err _ _ c.from_residual.ensures.0 whole
