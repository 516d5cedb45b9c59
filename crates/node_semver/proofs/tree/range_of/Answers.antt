use native.Mathlib.Omega.{arith}
use Rattle.node_semver.proofs.Sets.TreeSets.{refused-sets}
use Rattle.node_semver.proofs.tree.range_of.Goals as goal

pub returns-in-Ok-clause-sets : goal.returns-in-Ok-clause-sets
returns-in-Ok-clause-sets c = c.in-Ok.ensures.sets

-- an error that is not a failed allocation says that the text is refused
pub returns-in-Err-2-clause-sets : goal.returns-in-Err-2-clause-sets
returns-in-Err-2-clause-sets c = grind (arith, refused-sets)
