use Rattle.semver_pairs.proofs.LineLemmas.{none-of}
use Rattle.semver_pairs.proofs.PairLemmas.{pairs-no_newline, pairs-split}
use Rattle.semver_pairs.proofs.answering.first_pair.Goals as goal

pub returns-in_err-range-clause-none : goal.returns-in_err-range-clause-none
returns-in_err-range-clause-none c = none-of _ (pairs-no_newline _ c.in_err-range.ensures.none)

pub returns-in_err-version-clause-none : goal.returns-in_err-version-clause-none
returns-in_err-version-clause-none c = none-of _ (pairs-split c.in_ok-range.ensures.split c.in_err-version.ensures.none)
