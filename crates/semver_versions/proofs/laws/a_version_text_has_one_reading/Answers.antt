use Rattle.semver_versions.specs.Lemmas.Versions.OneReading.{one_reading}
use Rattle.semver_versions.proofs.laws.a_version_text_has_one_reading.Goals as goal

pub returns : goal.returns
returns c = record { only = one_reading }
