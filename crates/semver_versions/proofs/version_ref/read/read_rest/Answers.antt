use native.Mathlib.Omega.{arith}
use Rattle.semver_versions.proofs.Versions.VersionParse.{begun-found, begun-left, begun-release}
use Rattle.semver_versions.proofs.version_ref.read.read_rest.Goals as goal

pub returns-in-empty-clause-found : goal.returns-in-empty-clause-found
returns-in-empty-clause-found c = grind (arith, begun-release)

pub returns-in-empty-left-clause-found : goal.returns-in-empty-left-clause-found
returns-in-empty-left-clause-found c = grind (arith, begun-found)

pub invariant_of-result : goal.invariant_of-result
invariant_of-result c = returns-in-empty-clause-found c

pub invariant_of-result-in-empty-left : goal.invariant_of-result-in-empty-left
invariant_of-result-in-empty-left c = returns-in-empty-left-clause-found c

pub returns-in_default-left-clause-fault : goal.returns-in_default-left-clause-fault
returns-in_default-left-clause-fault c = grind (arith, begun-left)
