-- The members so far are read, and none of them has a fault.
use Rattle.std.proofs.Common.{◌≡◌, ◌++◌, List}
use Rattle.serde_json.specs.View.{members_view}
use Rattle.npm_advisories.specs.Advisories.{AdvisoryValue, npm_members}
use Rattle.npm_advisories.specs.Faults.{members_fault}
use Rattle.npm_advisories.specs.Index.{has_name}
use Rattle.npm_advisories.specs.Private.Index.{Adds}
use Rattle.npm_advisories.proofs.read.add_npm.Given as goal

abbrev pub invariant-loop-name : goal.invariant-loop-name
invariant-loop-name l = record {
  front : List AdvisoryValue;
  adds : Adds (has_name l.names) l.fn.index l.index front;
  rest : npm_members (members_view l.initial.name-iterator) ≡ front ++ npm_members (members_view l.name-iterator);
  fault : members_fault (has_name l.names) (members_view l.initial.name-iterator)
      ≡ members_fault (has_name l.names) (members_view l.name-iterator);
}
