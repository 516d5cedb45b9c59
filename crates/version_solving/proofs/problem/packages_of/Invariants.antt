-- Those so far stand for what is asked so far, and ranges are only added.
use Rattle.std.proofs.Common.{List, take}
use Rattle.version_solving.specs.Naming.{ArePackagesOf}
use Rattle.version_solving.specs.Private.Growth.{Extends}
use Rattle.version_solving.specs.Private.Numbers.{AreNumbers}
use Rattle.version_solving.specs.declared.ask.Listed.{Listed}
use Rattle.version_solving.proofs.problem.packages_of.Given as goal

abbrev pub invariant-loop-one : goal.invariant-loop-one
invariant-loop-one l = record {
  made : (names : List Listed) → AreNumbers names l.numbers
      → ArePackagesOf names l.all.list.items (take l.one-index l.listed) l.packages.items;
  extends : Extends l.initial.all.list.items l.all.list.items;
}
