use Rattle.semver_sets.proofs.Sets.AlternativeSets.{common-set}
use Rattle.semver_sets.proofs.read.alternative.read_set.Goals as goal

pub returns : goal.returns
returns c = common-set c.args.text.now c.merge_words.new.common c.into_set.result
    c.in_ok-merge_words.ensures c.into_set.ensures
