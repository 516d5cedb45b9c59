-- The names of the root, and those that the candidates of the names so far ask for, were added.
use Rattle.std.proofs.Common.{take}
use Rattle.std.specs.List.{All}
use Rattle.version_solving.specs.declared.ask.Listed.{Listed}
use Rattle.npm_resolve.specs.Instance.{AreAskersNamed, IsAskNamed}
use Rattle.npm_resolve.specs.Private.Naming.{AreNamesAdded}
use Rattle.npm_resolve.specs.declared.absent.Names.{Names}
use Rattle.std.proofs.Common.{◌≡◌, []}
use Rattle.npm_resolve.proofs.absent.absent_of.Given as goal

abbrev pub invariant-loop-one : goal.invariant-loop-one
invariant-loop-one l = (start : Names) × (start.absent.items ≡ []) × AreNamesAdded l.listed (λ names. All (IsAskNamed names) l.asks
    × All (λ (one : Listed). AreAskersNamed names one.candidates.items) (take l.one-index l.listed)) start l.names
