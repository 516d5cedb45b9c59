use Rattle.semver_sets.proofs.Sets.SetLemmas.{one-merging}
use Rattle.semver_sets.proofs.laws.a_text_writes_one_list_of_sets.Goals as goal

pub returns : goal.returns
returns c = one-merging
