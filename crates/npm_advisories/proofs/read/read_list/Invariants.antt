-- The advisories so far are read, and none of them has a fault.
use Rattle.std.proofs.Common.{◌≡◌, ◌++◌, ℕ, Bool, List, drop}
use Rattle.serde_json.specs.View.{items_view}
use Rattle.npm_advisories.specs.Advisories.{AdvisoryValue, npm_list}
use Rattle.npm_advisories.specs.Faults.{list_fault, npm_fault}
use Rattle.npm_advisories.specs.Private.Index.{Adds}
use Rattle.npm_advisories.proofs.read.read_list.Given as goal

abbrev pub invariant-loop-place : goal.invariant-loop-place
invariant-loop-place l = record {
  front : List AdvisoryValue;
  adds : (is_wanted : List ℕ → Bool) → Adds is_wanted l.fn.index l.index front;
  rest : npm_list l.name (items_view l.entries) ≡ front ++ npm_list l.name (items_view (drop l.place l.entries));
  fault : list_fault npm_fault l.name 0 (items_view l.entries)
      ≡ list_fault npm_fault l.name l.place (items_view (drop l.place l.entries));
}
