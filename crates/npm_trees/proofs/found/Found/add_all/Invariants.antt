-- Those so far were added.
use Rattle.std.proofs.Common.{take}
use Rattle.std.specs.List.{Contains}
use Rattle.npm_trees.specs.Private.Reaching.{AreAdded}
use Rattle.npm_trees.proofs.found.Found.add_all.Given as goal

abbrev pub invariant-loop-number : goal.invariant-loop-number
invariant-loop-number l = AreAdded (Contains (take l.number-index l.numbers)) l.initial.self l.self
