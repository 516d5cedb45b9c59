-- The packages so far have no fault.
use Rattle.std.proofs.Common.{◌≡◌, ℕ, List, length, true}
use Rattle.npm_packages.specs.Folders.{is_folder}
use Rattle.serde_json.specs.View.{members_view}
use Rattle.npm_lock.specs.VersionOne.{packages_fault, packages_of_entries, packages_of_members}
use Rattle.npm_lock.proofs.version_one_fault.+faults.Given as goal

abbrev pub invariant-check_below-loop-key : goal.invariant-check_below-loop-key
invariant-check_below-loop-key l = (folder : List ℕ) → is_folder folder ≡ true → length folder ≡ l.size
    → packages_fault (packages_of_members folder (members_view l.initial.key-iterator))
    ≡ packages_fault (packages_of_members folder (members_view l.key-iterator))

abbrev pub invariant-check_named-loop-name : goal.invariant-check_named-loop-name
invariant-check_named-loop-name l = (folder : List ℕ) → is_folder folder ≡ true → length folder ≡ l.size
    → packages_fault (packages_of_entries folder (members_view l.initial.name-iterator))
    ≡ packages_fault (packages_of_entries folder (members_view l.name-iterator))
