use Rattle.semver_versions.specs.Lemmas.Versions.FaultLemmas.{one_fault}
use Rattle.semver_versions.proofs.laws.a_text_has_one_fault.Goals as goal

pub returns : goal.returns
returns c = record { only = one_fault }
