use native.Mathlib.Omega.{arith}
use Rattle.node_semver.proofs.range.least.search.least_wanted.Goals as goal

pub least_with_others-requires-clause-found : goal.least_with_others-requires-clause-found
least_with_others-requires-clause-found g c = grind arith

pub returns : goal.returns
returns g c = grind arith
