-- Before the mismatches of the manifests that are left, those so far make the mismatches of all. None so far has a fault.
use Rattle.std.proofs.Common.{◌≡◌, ◌++◌, List, drop, map}
use Rattle.serde_json.specs.View.{view}
use Rattle.npm_lock.specs.declared.mismatch.Mismatch.{Mismatch}
use Rattle.npm_manifest_files.specs.Linked.{linked_value}
use Rattle.npm_lock_check.specs.Check.{linked_fault}
use Rattle.npm_lock_check.specs.Report.{AreAllMismatches}
use Rattle.npm_lock_check.proofs.checks.sync.add_linked.Given as goal

abbrev pub invariant-loop-one : goal.invariant-loop-one
invariant-loop-one l = record {
  found : (rest : List Mismatch) → AreAllMismatches (view l.lock) (map linked_value (drop l.one-index l.linked)) rest
      → (list : List Mismatch) × AreAllMismatches (view l.lock) (map linked_value l.linked) list
      × (l.all.items ++ rest ≡ l.initial.all.items ++ list);
  sound : linked_fault (map linked_value l.linked) ≡ linked_fault (map linked_value (drop l.one-index l.linked));
}
