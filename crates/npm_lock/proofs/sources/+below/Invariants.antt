-- The findings so far, followed by those of the packages that are left, are those of all packages after the first ones.
use Rattle.std.proofs.Common.{◌≡◌, ◌++◌, map, string_bytes}
use Rattle.std.specs.List.{flat_map}
use Rattle.serde_json.specs.View.{members_view}
use Rattle.npm_lock.specs.Sources.{old_sources, source_value}
use Rattle.npm_lock.specs.VersionOne.{packages_of_entries, packages_of_members}
use Rattle.npm_lock.proofs.sources.+below.Given as goal

abbrev pub invariant-add_below-loop-key : goal.invariant-add_below-loop-key
invariant-add_below-loop-key l = map source_value l.found.items
    ++ flat_map (old_sources (map string_bytes l.registries)) (packages_of_members l.folder (members_view l.key-iterator))
    ≡ map source_value l.initial.found.items
    ++ flat_map (old_sources (map string_bytes l.registries)) (packages_of_members l.folder (members_view l.initial.key-iterator))

abbrev pub invariant-add_named-loop-name : goal.invariant-add_named-loop-name
invariant-add_named-loop-name l = map source_value l.found.items
    ++ flat_map (old_sources (map string_bytes l.registries)) (packages_of_entries l.folder (members_view l.name-iterator))
    ≡ map source_value l.initial.found.items
    ++ flat_map (old_sources (map string_bytes l.registries)) (packages_of_entries l.folder (members_view l.initial.name-iterator))
