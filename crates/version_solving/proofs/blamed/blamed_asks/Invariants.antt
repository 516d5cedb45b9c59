-- Those so far are the asks of the demands so far.
use Rattle.std.proofs.Common.{take}
use Rattle.std.specs.List.{AllZip}
use Rattle.version_solving.specs.Naming.{IsAskOf}
use Rattle.version_solving.proofs.blamed.blamed_asks.Given as goal

abbrev pub invariant-loop-demand : goal.invariant-loop-demand
invariant-loop-demand l = AllZip (IsAskOf l.asks l.demands) (take l.demand-index l.some) l.blamed.items
