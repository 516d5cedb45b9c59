use native.Mathlib.Omega.{arith}
use Rattle.std.proofs.Common.{rules}
use Rattle.semver_versions.specs.Lemmas.Versions.FaultLemmas.{version-no_fault}
use Rattle.semver_versions.proofs.Versions.VersionParse.{begun-release}
use Rattle.semver_versions.proofs.version.parse.version_of_text.Goals as goal

pub returns-in-Ok-default-empty : goal.returns-in-Ok-default-empty
returns-in-Ok-default-empty c = grind (arith, begun-release)

pub returns-in-Err : goal.returns-in-Err
returns-in-Err c = record {
  found = search rules;
  fault = search rules;
  plain = λ v h pre build. absurd
      (version-no_fault c.as_bytes.result.now v _ _ (rw c.as_bytes.ensures.value h) c.in-Err.ensures.fault.fault);
}
