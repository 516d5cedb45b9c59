-- The elements so far are read, and none of them has a fault.
use Rattle.std.proofs.Common.{◌≡◌, ◌++◌, List, drop}
use Rattle.serde_json.specs.View.{items_view}
use Rattle.npm_advisories.specs.Advisories.{AdvisoryValue, about_value}
use Rattle.npm_advisories.specs.Faults.{first_fault}
use Rattle.npm_advisories.specs.OsvFaults.{affected_fault}
use Rattle.npm_advisories.specs.OsvForm.{affected_list}
use Rattle.npm_advisories.specs.Index.{has_name}
use Rattle.npm_advisories.specs.Private.Index.{Adds}
use Rattle.npm_advisories.specs.Private.VersionTest.{is_version}
use Rattle.npm_advisories.proofs.osv.add_affected.Given as goal

abbrev pub invariant-loop-one : goal.invariant-loop-one
invariant-loop-one l = record {
  front : List AdvisoryValue;
  adds : Adds (has_name l.names) l.fn.index l.index front;
  rest : affected_list (about_value l.about) (items_view l.affected)
      ≡ front ++ affected_list (about_value l.about) (items_view (drop l.one-index l.affected));
  fault : first_fault (affected_fault is_version (has_name l.names)) (items_view l.affected)
      ≡ first_fault (affected_fault is_version (has_name l.names)) (items_view (drop l.one-index l.affected));
}
