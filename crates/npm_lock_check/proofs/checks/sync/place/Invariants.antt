-- The manifests that are left make of the lock file what all make of the first one.
use Rattle.std.proofs.Common.{◌≡◌, map}
use Rattle.serde_json.specs.View.{view}
use Rattle.npm_manifest_files.specs.Linked.{linked_value}
use Rattle.npm_lock_check.specs.Report.{placed}
use Rattle.npm_lock_check.proofs.checks.sync.place.Given as goal

abbrev pub invariant-loop-one : goal.invariant-loop-one
invariant-loop-one l = placed (view l.lock) (map linked_value l.one-iterator.rest.items)
    ≡ placed (view l.initial.lock) (map linked_value l.initial.one-iterator.rest.items)
