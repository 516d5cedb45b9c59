-- The dependencies so far, and before those by the names that are left, are all of the package.
use Rattle.std.proofs.Common.{◌≡◌, ◌++◌, List, map}
use Rattle.std.specs.List.{AllZip}
use Rattle.serde_json.specs.View.{view}
use Rattle.npm_packages.specs.Edges.{EdgeValue, IsEdge, edge_value}
use Rattle.npm_packages.specs.Lemmas.NameLists.{AreAsked, names_of}
use Rattle.npm_packages.specs.PackageValue.{packages_data}
use Rattle.npm_packages.proofs.edges.add_package.Given as goal

abbrev pub invariant-loop-name : goal.invariant-loop-name
invariant-loop-name l = record {
  asked : AreAsked (view l.asker.member.now) l.is_installed l.name-iterator;
  found : (later : List EdgeValue)
      → AllZip (IsEdge (packages_data l.lock) l.asker.folder.now (view l.asker.member.now) l.is_installed)
      (names_of l.name-iterator) later
      → (found : List EdgeValue)
      × AllZip (IsEdge (packages_data l.lock) l.asker.folder.now (view l.asker.member.now) l.is_installed)
      (names_of l.initial.name-iterator) found
      × (map edge_value l.edges.items ++ later ≡ map edge_value l.initial.edges.items ++ found);
}
