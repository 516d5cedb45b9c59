use Rattle.semver_versions.specs.Lemmas.Versions.FaultLemmas.{read_or_faulty, version-no_fault}
use Rattle.semver_versions.proofs.laws.every_text_is_read_or_faulty.Goals as goal

pub returns : goal.returns
returns c = record { one = read_or_faulty; never_both = version-no_fault }
