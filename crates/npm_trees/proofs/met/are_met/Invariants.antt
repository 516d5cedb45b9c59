-- Those so far are met.
use Rattle.std.proofs.Common.{take}
use Rattle.npm_trees.specs.Meeting.{IsMet}
use Rattle.npm_trees.proofs.met.are_met.Given as goal

abbrev pub invariant-loop-ask : goal.invariant-loop-ask
invariant-loop-ask l = IsMet l.places (take l.ask-index l.asks)
