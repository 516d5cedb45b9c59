-- Those so far stand for what is asked so far, and ranges are only added.
use Rattle.std.proofs.Common.{List, take}
use Rattle.version_solving.specs.Naming.{AreDemandsOf}
use Rattle.version_solving.specs.Private.Growth.{Extends}
use Rattle.version_solving.specs.Private.Numbers.{AreNumbers}
use Rattle.version_solving.specs.declared.ask.Listed.{Listed}
use Rattle.version_solving.proofs.problem.demands_of.Given as goal

abbrev pub invariant-loop-ask : goal.invariant-loop-ask
invariant-loop-ask l = record {
  made : (names : List Listed) → AreNumbers names l.numbers
      → AreDemandsOf names l.all.list.items (take l.ask-index l.asks) l.demands.items;
  extends : Extends l.initial.all.list.items l.all.list.items;
}
