use Rattle.semver_keys.proofs.KeyLengths.{version-length}
use Rattle.semver_keys.proofs.laws.keys_of_texts_are_short.Goals as goal

pub returns : goal.returns
returns c = record { short = version-length }
