use Rattle.semver_cuts.specs.Lemmas.CommonSpans.{common_spans-cuts, common_spans-none}
use Rattle.semver_cuts.specs.Lemmas.Difference.{common_difference-disjoint, common_difference-together, difference-cuts}
use Rattle.semver_cuts.specs.Lemmas.Difference.{difference-covered}
use Rattle.semver_cuts.proofs.laws.common_and_difference_part_the_cuts.Goals as goal

pub returns-clause-common : goal.returns-clause-common
returns-clause-common g c = common_spans-cuts g.met.T.Ord.total

pub returns-clause-difference : goal.returns-clause-difference
returns-clause-difference g c = difference-cuts g.T.Ord.cmp

pub returns-clause-together : goal.returns-clause-together
returns-clause-together g c = common_difference-together g.met.T.Ord.total

pub returns-clause-disjoint : goal.returns-clause-disjoint
returns-clause-disjoint g c = common_difference-disjoint g.met.T.Ord.total

pub returns-clause-no_common : goal.returns-clause-no_common
returns-clause-no_common g c = common_spans-none g.met.T.Ord.total

pub returns-clause-no_difference : goal.returns-clause-no_difference
returns-clause-no_difference g c = difference-covered g.met.T.Ord.total
