use Rattle.std.proofs.Common.{◌≡◌, ◌++◌, drop}
use Rattle.semver_cuts.specs.Joined.{AreRising}
use Rattle.semver_cuts.specs.Private.Placed.{placed_from}
use Rattle.semver_cuts.proofs.algebra.placed.in_order.Given as goal

abbrev pub invariant-loop-place : goal.invariant-loop-place
invariant-loop-place g l = record {
  placed : l.order.items ++ placed_from l.place (drop l.place l.spans) ≡ placed_from 0 l.spans;
  rising : AreRising g.T.Ord.cmp (drop l.place l.spans) → AreRising g.T.Ord.cmp l.spans;
}
