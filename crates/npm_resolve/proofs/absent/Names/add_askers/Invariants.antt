-- The names that the candidates so far ask for were added.
use Rattle.std.proofs.Common.{take}
use Rattle.npm_resolve.specs.Instance.{AreAskersNamed}
use Rattle.npm_resolve.specs.Private.Naming.{AreNamesAdded}
use Rattle.npm_resolve.proofs.absent.Names.add_askers.Given as goal

abbrev pub invariant-loop-asker : goal.invariant-loop-asker
invariant-loop-asker l = AreNamesAdded l.listed (λ names. AreAskersNamed names (take l.asker-index l.askers)) l.initial.self l.self
