-- Those so far that are tops were found.
use Rattle.std.proofs.Common.{◌↔◌, ◌<◌, ℕ}
use Rattle.npm_trees.specs.Private.Reaching.{AreMarked, Has}
use Rattle.npm_trees.specs.Reaching.{IsTop}
use Rattle.npm_trees.proofs.reached.tops_of.Given as goal

abbrev pub invariant-loop-number : goal.invariant-loop-number
invariant-loop-number l = record {
  marked : AreMarked l.reached;
  tops : (k : ℕ) → Has l.reached k ↔ ((k < l.number) × IsTop l.places k);
}
