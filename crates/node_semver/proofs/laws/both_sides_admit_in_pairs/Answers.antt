use Rattle.node_semver.proofs.Sets.TreeUnique.{both-admit}
use Rattle.node_semver.proofs.laws.both_sides_admit_in_pairs.Goals as goal

pub returns : goal.returns
returns c = both-admit c.a_text_writes_one_list_of_sets.ensures
