use Rattle.semver_pairs.specs.Pairs.{pairs_read}
use Rattle.semver_pairs.proofs.AnswerLemmas.{answers-exist, answers-only}
use Rattle.semver_pairs.proofs.laws.each_input_has_one_output.Goals as goal

pub returns : goal.returns
returns c = record {
  exists = λ is_end read. answers-exist (pairs_read is_end read);
  only = λ is_end read. answers-only (pairs_read is_end read);
}
