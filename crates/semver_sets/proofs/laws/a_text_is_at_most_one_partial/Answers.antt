use Rattle.semver_sets.proofs.Words.HyphenReading.{one_hyphen_range}
use Rattle.semver_sets.proofs.Words.PartialReading.{one_partial}
use Rattle.semver_sets.proofs.Words.SimpleReading.{one_simple}
use Rattle.semver_sets.proofs.laws.a_text_is_at_most_one_partial.Goals as goal

pub returns : goal.returns
returns c = record { partial = one_partial; hyphen = one_hyphen_range; simple = one_simple }
