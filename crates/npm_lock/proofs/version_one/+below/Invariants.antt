-- What the members that are left add to the packages so far is what all add to the first ones.
use Rattle.std.proofs.Common.{◌≡◌}
use Rattle.serde_json.specs.View.{members_view}
use Rattle.npm_lock.specs.VersionOne.{packages_of_entries, packages_of_members, with_packages}
use Rattle.npm_lock.proofs.version_one.+below.Given as goal

abbrev pub invariant-add_below-loop-key : goal.invariant-add_below-loop-key
invariant-add_below-loop-key l =
    with_packages (packages_of_members l.folder (members_view l.key-iterator)) (members_view l.packages.entries)
    ≡ with_packages (packages_of_members l.folder (members_view l.initial.key-iterator))
    (members_view l.initial.packages.entries)

abbrev pub invariant-add_named-loop-name : goal.invariant-add_named-loop-name
invariant-add_named-loop-name l =
    with_packages (packages_of_entries l.folder (members_view l.name-iterator)) (members_view l.packages.entries)
    ≡ with_packages (packages_of_entries l.folder (members_view l.initial.name-iterator))
    (members_view l.initial.packages.entries)
