use Rattle.semver_sets.proofs.Ranges.JoinedTexts.{sets-of_joined}
use Rattle.semver_sets.proofs.laws.joined_texts_write_all_sets.Goals as goal

pub returns : goal.returns
returns c = sets-of_joined
