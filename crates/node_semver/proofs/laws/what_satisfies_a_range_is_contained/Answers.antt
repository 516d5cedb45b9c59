use Rattle.node_semver.proofs.Ranges.Contained.{admitted-contained}
use Rattle.node_semver.proofs.laws.what_satisfies_a_range_is_contained.Goals as goal

pub returns : goal.returns
returns c = admitted-contained
