use native.Mathlib.Omega.{arith}
use Rattle.node_semver.proofs.Sets.TreeSets.{common-with_none}
use Rattle.node_semver.proofs.tree.common.Goals as goal

pub returns-clause-sets : goal.returns-clause-sets
returns-clause-sets c = grind (arith, common-with_none)
