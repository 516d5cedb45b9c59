use Rattle.semver_sets.specs.Lemmas.Merging.{one-set}
use Rattle.semver_sets.proofs.laws.comparators_have_one_set.Goals as goal

pub returns : goal.returns
returns c = record { one = one-set }
