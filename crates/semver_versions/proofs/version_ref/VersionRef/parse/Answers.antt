use Rattle.semver_versions.specs.Lemmas.Versions.OneReading.{one_reading}
use Rattle.semver_versions.specs.Lemmas.Versions.FaultLemmas.{version-no_fault}
use Rattle.semver_versions.proofs.version_ref.VersionRef.parse.Goals as goal

pub returns-in-Ok-clause-only : goal.returns-in-Ok-clause-only
returns-in-Ok-clause-only c = λ v h. one_reading c.args.text.now c.in-Ok.version v c.in-Ok.ensures.found h

pub returns-in-Err-clause-only : goal.returns-in-Err-clause-only
returns-in-Err-clause-only c = λ v h.
    version-no_fault c.as_bytes.result.now v _ _ (rw c.as_bytes.ensures.value h) c.fault_of.ensures
