use Rattle.node_semver.proofs.Sets.TreeUnique.{tree-unique}
use Rattle.node_semver.proofs.laws.a_tree_has_one_list_of_sets.Goals as goal

pub returns : goal.returns
returns c = tree-unique c.a_text_writes_one_list_of_sets.ensures
