-- One comparison sorts two.
use Rattle.std.proofs.lemmas.Grind.{common_steps}
use native.Mathlib.Omega.{arith}
use Rattle.std.proofs.Common.{rules}
use Rattle.semver_cuts.specs.Lemmas.Placed.{placed_total}
use Rattle.semver_cuts.proofs.Joining.PlacedOrder.{two-moved, two-turned}
use Rattle.semver_cuts.proofs.algebra.placed.two_in_order.Goals as goal

pub returns-then-lt : goal.returns-then-lt
returns-then-lt g c = grind (arith, common_steps, rules, two-moved, two-turned, placed_total)
