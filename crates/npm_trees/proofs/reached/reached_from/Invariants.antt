-- The first ones so far lead to nothing else.
use Rattle.npm_trees.specs.Private.Reaching.{AreHeld}
use Rattle.npm_trees.proofs.reached.reached_from.Given as goal

abbrev pub invariant-loop-step : goal.invariant-loop-step
invariant-loop-step l = AreHeld l.places l.documents l.asks l.step l.reached
