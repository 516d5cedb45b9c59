-- The ways are those of the dependencies so far.
use Rattle.std.proofs.Common.{◌≡◌, length, take}
use Rattle.npm_trees.specs.Private.Reaching.{AreWays}
use Rattle.npm_trees.proofs.reached.ways_of.Given as goal

abbrev pub invariant-loop-ask : goal.invariant-loop-ask
invariant-loop-ask l = record {
  ways : AreWays l.places l.documents (take l.ask-index l.asks) l.ways.items;
  count : length l.ways.items ≡ length l.places;
}
