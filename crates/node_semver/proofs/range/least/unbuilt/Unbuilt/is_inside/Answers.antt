use native.Mathlib.Omega.{arith}
use Rattle.node_semver.proofs.Least.LeastLemmas.{inside-after}
use Rattle.node_semver.proofs.range.least.unbuilt.Unbuilt.is_inside.Goals as goal

pub returns-in-After : goal.returns-in-After
returns-in-After c = grind (arith, inside-after)
