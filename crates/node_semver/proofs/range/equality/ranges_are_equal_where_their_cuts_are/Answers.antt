use Rattle.semver_sets.specs.Lemmas.RangeHash.{range_alike}
use Rattle.node_semver.specs.Lemmas.RangeEquality.{cuts-from_test, test-from_cuts}
use Rattle.node_semver.proofs.Sets.RangeEquality.{same-admit}
use Rattle.node_semver.proofs.range.equality.ranges_are_equal_where_their_cuts_are.Goals as goal

pub returns-clause-same : goal.returns-clause-same
returns-clause-same c = λ one other. (cuts-from_test one other, test-from_cuts one other)

pub returns-clause-alike : goal.returns-clause-alike
returns-clause-alike c = λ one other same. range_alike one other (test-from_cuts one other same)

pub returns-clause-admit : goal.returns-clause-admit
returns-clause-admit c = same-admit
