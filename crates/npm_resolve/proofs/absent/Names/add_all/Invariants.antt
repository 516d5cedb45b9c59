-- The names of the asks so far were added.
use Rattle.std.proofs.Common.{take}
use Rattle.std.specs.List.{All}
use Rattle.npm_resolve.specs.Instance.{IsAskNamed}
use Rattle.npm_resolve.specs.Private.Naming.{AreNamesAdded}
use Rattle.npm_resolve.proofs.absent.Names.add_all.Given as goal

abbrev pub invariant-loop-ask : goal.invariant-loop-ask
invariant-loop-ask l = AreNamesAdded l.listed (λ names. All (IsAskNamed names) (take l.ask-index l.asks)) l.initial.self l.self
