use Rattle.semver_cuts.proofs.Joining.StartsCounted.{starts-counted}
use Rattle.semver_cuts.proofs.Joining.SameSpans.{same-spans}
use Rattle.semver_cuts.proofs.laws.merged_spans_are_fixed_by_their_cuts.Goals as goal

pub returns-clause-same : goal.returns-clause-same
returns-clause-same g c = same-spans g.met.T.Ord.total

pub returns-clause-count : goal.returns-clause-count
returns-clause-count g c = starts-counted g.met.T.Ord.total
