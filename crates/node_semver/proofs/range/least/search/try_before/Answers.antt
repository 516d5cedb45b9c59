use native.Mathlib.Omega.{arith}
use Rattle.node_semver.proofs.Least.CandidateSteps.{before-prerelease-trial, before-release-trial}
use Rattle.node_semver.proofs.range.least.search.try_before.Goals as goal
use Rattle.node_semver.proofs.range.least.search.try_before.Goals.{then-is_prerelease, else-is_prerelease}

pub returns : goal.returns
returns g c = grind (arith, then-is_prerelease, before-prerelease-trial, else-is_prerelease, before-release-trial)
