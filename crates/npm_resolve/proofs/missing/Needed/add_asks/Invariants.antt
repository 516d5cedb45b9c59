-- The names of those so far were added.
use Rattle.std.proofs.Common.{take}
use Rattle.std.specs.List.{list_any}
use Rattle.npm_resolve.specs.Missing.{needs}
use Rattle.npm_resolve.specs.Private.Needing.{AreNeeded}
use Rattle.npm_resolve.proofs.missing.Needed.add_asks.Given as goal

abbrev pub invariant-loop-ask : goal.invariant-loop-ask
invariant-loop-ask l = AreNeeded (λ name. list_any (needs name) (take l.ask-index l.asks)) l.initial.self l.self
