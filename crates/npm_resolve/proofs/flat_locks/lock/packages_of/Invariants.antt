-- The members so far, with those of the packages that are left, are all members.
use Rattle.std.proofs.Common.{◌≡◌, drop, map}
use Rattle.serde_json.specs.View.{members_view, view}
use Rattle.npm_resolve.specs.Installed.{installed_value}
use Rattle.npm_resolve.specs.Lock.{packages_of, with_packages}
use Rattle.npm_resolve.specs.Private.Marking.{marks_in}
use Rattle.npm_resolve.proofs.flat_locks.lock.packages_of.Given as goal

abbrev pub invariant-loop-one : goal.invariant-loop-one
invariant-loop-one l = with_packages (marks_in l.reaches) (map installed_value (drop l.one-index l.installed)) (members_view l.packages.entries)
    ≡ packages_of (view l.root) (map installed_value l.installed) (marks_in l.reaches)
