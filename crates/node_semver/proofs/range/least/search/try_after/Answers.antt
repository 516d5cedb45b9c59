use native.Mathlib.Omega.{arith}
use Rattle.node_semver.proofs.Least.CandidateSteps.{after-prerelease-trial, after-release-trial}
use Rattle.node_semver.proofs.range.least.search.try_after.Goals as goal

pub returns-then-is_prerelease : goal.returns-then-is_prerelease
returns-then-is_prerelease g c = grind (arith, after-prerelease-trial)

pub returns-else-is_prerelease : goal.returns-else-is_prerelease
returns-else-is_prerelease g c = grind (arith, after-release-trial)
