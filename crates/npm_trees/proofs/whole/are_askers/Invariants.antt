-- Those so far are places.
use Rattle.std.proofs.Common.{◌<◌, All, take}
use Rattle.npm_trees.specs.declared.tree.Ask.{Ask}
use Rattle.npm_trees.proofs.whole.are_askers.Given as goal

abbrev pub invariant-loop-ask : goal.invariant-loop-ask
invariant-loop-ask l = All (λ (ask : Ask). ask.from < l.count) (take l.ask-index l.asks)
