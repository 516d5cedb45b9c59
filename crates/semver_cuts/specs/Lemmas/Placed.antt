-- The order of placed spans is total.
use native.Mathlib.Omega.{arith}
use Rattle.std.specs.declared.cmp.Ordering.{Ordering}
use Rattle.std.specs.Cmp.{IsTotalOrder, nat_cmp_total, on_total, then_total}
use Rattle.semver_cuts.specs.Lemmas.CutOrder.{cut_total}
use Rattle.semver_cuts.specs.Private.Placed.{placed_cmp}

pub placed_total : {T : Type 0} {cmp : T → T → Ordering} → IsTotalOrder cmp → IsTotalOrder (placed_cmp cmp)
placed_total h1 = search (arith, then_total, on_total, cut_total, nat_cmp_total)
