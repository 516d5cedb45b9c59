use Rattle.std.proofs.Common.{refl}
use Rattle.semver_keys.proofs.VersionReading.{read-back}
use Rattle.semver_keys.proofs.laws.versions_are_read_back.Goals as goal

pub returns-clause-same : goal.returns-clause-same
returns-clause-same c = read-back

pub returns-clause-found : goal.returns-clause-found
returns-clause-found c v h none = none v h refl
