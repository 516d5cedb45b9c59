use native.Mathlib.Omega.{arith}
use Rattle.std.proofs.lemmas.List.{take_all}
use Rattle.node_semver.proofs.Least.CandidateSteps.{set-trial, sets-more}
use Rattle.node_semver.proofs.range.least.search.least_candidate.Goals as goal

pub sets-init : goal.sets-init
sets-init g c = record { best = tt; each = tt }

pub sets-preserved : goal.sets-preserved
sets-preserved g c = grind (arith, sets-more, set-trial)

pub returns : goal.returns
returns g c = grind (arith, take_all)
