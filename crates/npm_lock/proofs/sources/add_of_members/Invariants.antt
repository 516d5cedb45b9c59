-- The findings so far, followed by those of the members that are left, are those of all members after the first ones.
use Rattle.std.proofs.Common.{◌≡◌, ◌++◌, map, string_bytes}
use Rattle.serde_json.specs.View.{members_view}
use Rattle.npm_lock.specs.Sources.{source_value, sources_of_members}
use Rattle.npm_lock.proofs.sources.add_of_members.Given as goal

abbrev pub invariant-loop-folder : goal.invariant-loop-folder
invariant-loop-folder l =
    map source_value l.found.items ++ sources_of_members (map string_bytes l.registries) (members_view l.folder-iterator)
    ≡ map source_value l.initial.found.items
    ++ sources_of_members (map string_bytes l.registries) (members_view l.initial.folder-iterator)
