-- There is none so far.
use Rattle.std.proofs.Common.{◌≡◌, ℕ, length}
use Rattle.npm_trees.specs.Private.Reaching.{HasWay}
use Rattle.npm_trees.proofs.reached.no_ways.Given as goal

abbrev pub invariant-loop-place : goal.invariant-loop-place
invariant-loop-place l = record {
  none : (number to : ℕ) → HasWay l.ways.items number to → ⊥;
  count : length l.ways.items ≡ l.place;
}
