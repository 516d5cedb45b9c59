use Rattle.std.proofs.Common.{take}
use Rattle.version_solving.specs.Private.Changes.{AreBelow}
use Rattle.version_solving.proofs.change.are_below.Given as goal

abbrev pub invariant-loop-demand : goal.invariant-loop-demand
invariant-loop-demand l = AreBelow l.number (take l.demand-index l.demands)
