use native.Mathlib.Omega.{arith}
use Rattle.node_semver.proofs.Least.CandidateSteps.{trial-found}
use Rattle.node_semver.proofs.range.least.search.try_candidate.Goals as goal

pub returns-then-is_wanted : goal.returns-then-is_wanted
returns-then-is_wanted g c = grind (arith, trial-found)
