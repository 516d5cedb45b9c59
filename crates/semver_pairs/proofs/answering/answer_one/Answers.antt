use Rattle.semver_pairs.proofs.FailureLemmas.{on_err, tells-on}
use Rattle.semver_pairs.proofs.MoveLemmas.{one-from, one-part}
use Rattle.semver_pairs.proofs.answering.answer_one.Goals as goal

pub returns-in_err-answer_range : goal.returns-in_err-answer_range
returns-in_err-answer_range g c =
    let some = one-part c.in_err-answer_range.ensures.answers in
    record {
      answers = on_err _ _ c.from_residual.ensures.0 some;
      failure = tells-on _ _ _ c.from_residual.ensures.1 c.in_err-answer_range.ensures.failure;
    }

pub returns : goal.returns
returns g c = record {
  answers = one-from c.in_ok-answer_range.ensures.answers;
  failure = c.in_ok-answer_range.ensures.failure;
}
