use Rattle.std.proofs.Common.{◌∙◌}
use Rattle.semver_pairs.proofs.MoveLemmas.{past_more, past_part}
use Rattle.semver_pairs.proofs.FailureLemmas.{on_err, tells-on}
use Rattle.semver_pairs.proofs.answering.answer_pairs.Goals as goal

pub returns-in_err-rest : goal.returns-in_err-rest
returns-in_err-rest g c =
    let some = past_part c.pairs.invariant.0 c.in-Some.ensures.found c.in_err-rest.ensures.answers in
    record {
      answers = on_err _ _ c.from_residual.ensures.0 some;
      none = on_err _ _ c.from_residual.ensures.0 tt;
      failure = tells-on _ _ _ c.from_residual.ensures.1 c.in_err-rest.ensures.failure;
    }

pub pairs-preserved : goal.pairs-preserved
pairs-preserved g c = (
  past_more c.pairs.invariant.0 c.in-Some.ensures.found c.in_ok-rest.ensures.answers,
  c.in_ok-rest.ensures.failure,
  λ is. c.in_ok-rest.ensures.ascii (c.in-Some.ensures.marked ∙ is),
)
