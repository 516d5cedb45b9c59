use native.Mathlib.Omega.{arith}
use Rattle.node_semver.proofs.Least.ZeroLists.{answered, last-zero}
use Rattle.node_semver.proofs.range.least.unbuilt.is_with_zero.Goals as goal

pub returns-then-is_zero : goal.returns-then-is_zero
returns-then-is_zero c = grind (arith, answered, last-zero)
