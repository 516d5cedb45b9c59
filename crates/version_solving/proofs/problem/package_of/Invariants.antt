-- Those so far stand for what is asked so far, and ranges are only added.
use Rattle.std.proofs.Common.{List, take}
use Rattle.version_solving.specs.Naming.{AreCandidatesOf}
use Rattle.version_solving.specs.Private.Growth.{Extends}
use Rattle.version_solving.specs.Private.Numbers.{AreNumbers}
use Rattle.version_solving.specs.declared.ask.Listed.{Listed}
use Rattle.version_solving.proofs.problem.package_of.Given as goal

abbrev pub invariant-loop-one : goal.invariant-loop-one
invariant-loop-one l = record {
  made : (names : List Listed) → AreNumbers names l.numbers
      → AreCandidatesOf names l.all.list.items (take l.one-index l.askers) l.candidates.items;
  extends : Extends l.initial.all.list.items l.all.list.items;
}
