-- The members so far have no fault.
use Rattle.std.proofs.Common.{◌≡◌}
use Rattle.serde_json.specs.View.{members_view}
use Rattle.npm_packages.specs.Faults as Faults
use Rattle.npm_packages.specs.PackageValue.{packages_data}
use Rattle.npm_packages.proofs.fault.lock_of.Given as goal

abbrev pub invariant-loop-folder : goal.invariant-loop-folder
invariant-loop-folder l = Faults.members_fault (packages_data l.lock) (members_view l.initial.folder-iterator)
    ≡ Faults.members_fault (packages_data l.lock) (members_view l.folder-iterator)
