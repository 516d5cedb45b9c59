-- Those so far belong to the items so far.
use Rattle.std.proofs.Common.{take}
use Rattle.npm_resolve.specs.Instance.{AreRanges}
use Rattle.npm_resolve.proofs.instance.ranges_of.Given as goal

abbrev pub invariant-loop-one : goal.invariant-loop-one
invariant-loop-one l = AreRanges l.before l.offers (take l.one-index l.wanted) l.ranges.items
