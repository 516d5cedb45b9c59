-- The objects so far are read, and none of them has a fault.
use Rattle.std.proofs.Common.{◌≡◌, ◌++◌, List, drop}
use Rattle.serde_json.specs.View.{items_view}
use Rattle.npm_advisories.specs.Advisories.{AdvisoryValue}
use Rattle.npm_advisories.specs.OsvFaults.{osv_list_fault}
use Rattle.npm_advisories.specs.OsvForm.{osv_list}
use Rattle.npm_advisories.specs.Index.{has_name}
use Rattle.npm_advisories.specs.Private.Index.{Adds}
use Rattle.npm_advisories.specs.Private.VersionTest.{is_version}
use Rattle.npm_advisories.proofs.read.add_osv_list.Given as goal

abbrev pub invariant-loop-place : goal.invariant-loop-place
invariant-loop-place l = record {
  front : List AdvisoryValue;
  adds : Adds (has_name l.names) l.fn.index l.index front;
  rest : osv_list l.today (items_view l.entries) ≡ front ++ osv_list l.today (items_view (drop l.place l.entries));
  fault : osv_list_fault l.today is_version (has_name l.names) 0 (items_view l.entries)
      ≡ osv_list_fault l.today is_version (has_name l.names) l.place (items_view (drop l.place l.entries));
}
