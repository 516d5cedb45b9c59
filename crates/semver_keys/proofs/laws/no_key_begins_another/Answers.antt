use Rattle.semver_keys.proofs.VersionReading.{no-key-begins}
use Rattle.semver_keys.proofs.laws.no_key_begins_another.Goals as goal

pub returns : goal.returns
returns c = record { apart = no-key-begins }
