use native.Mathlib.Omega.{arith}
use Rattle.node_semver.proofs.Sets.TreeSets.{difference-without_none}
use Rattle.node_semver.proofs.tree.difference.Goals as goal

pub returns-in-Some-clause-sets : goal.returns-in-Some-clause-sets
returns-in-Some-clause-sets c = grind arith

pub returns-in-None-clause-sets : goal.returns-in-None-clause-sets
returns-in-None-clause-sets c = grind (arith, difference-without_none)
