-- A folder to which a link leads is in the map, or the link is left.
use Rattle.std.proofs.Common.{◌⊎◌, ◌↔◌, ℕ, List, string_cmp}
use Rattle.std.specs.List.Sorted.{IsStrictlySortedBy}
use Rattle.std.specs.Map.{keys_of}
use Rattle.serde_json.specs.View.{members_view}
use Rattle.npm_packages.specs.Lemmas.FolderMaps.{HasFolder}
use Rattle.npm_packages.specs.Private.Linked.{IsLinkedAmong}
use Rattle.npm_packages.specs.PackageValue.{packages_data}
use Rattle.npm_packages.proofs.linked.folders_of.Given as goal

abbrev pub invariant-loop-member : goal.invariant-loop-member
invariant-loop-member l = record {
  sorted : IsStrictlySortedBy string_cmp (keys_of l.member-iterator);
  all : (folder : List ℕ) → IsLinkedAmong (packages_data l.lock) (members_view l.initial.member-iterator) folder
      ↔ (HasFolder l.folders folder ⊎ IsLinkedAmong (packages_data l.lock) (members_view l.member-iterator) folder);
}
