-- The asks so far were added.
use Rattle.std.proofs.Common.{map, take}
use Rattle.npm_resolve.specs.Asks.{ask_value}
use Rattle.npm_resolve.specs.Private.Gathering.{AreAdded}
use Rattle.npm_resolve.proofs.requests.Requests.add_all.Given as goal

abbrev pub invariant-loop-ask : goal.invariant-loop-ask
invariant-loop-ask l = AreAdded (map ask_value (take l.ask-index l.asks)) l.initial.self l.self
