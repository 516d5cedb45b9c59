-- The count so far, and that of the members that are left, are the count of all.
use Rattle.std.proofs.Common.{◌≡◌, ◌+◌, ◌<◌, ◌^◌}
use Rattle.serde_json.specs.View.{members_view, view}
use Rattle.npm_lock.specs.Findings.{counted}
use Rattle.npm_lock_reports.specs.Count.{omitted_in}
use Rattle.npm_lock_reports.proofs.count.count_in.Given as goal

abbrev pub invariant-loop-folder : goal.invariant-loop-folder
invariant-loop-folder l = record {
  fits : l.count < 2 ^ 64;
  same : counted (l.count + omitted_in l.omissions (view l.lock) (members_view l.folder-iterator))
      ≡ counted (omitted_in l.omissions (view l.lock) (members_view l.initial.folder-iterator));
}
