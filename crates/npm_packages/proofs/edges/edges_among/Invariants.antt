-- The dependencies so far, and before those of the members that are left, are all dependencies.
use Rattle.std.proofs.Common.{◌++◌, List, map}
use Rattle.serde_json.specs.View.{members_view}
use Rattle.npm_packages.specs.Edges.{AreEdges, EdgeValue, edge_value}
use Rattle.npm_packages.specs.PackageValue.{packages_data}
use Rattle.npm_packages.proofs.edges.edges_among.Given as goal

abbrev pub invariant-loop-folder : goal.invariant-loop-folder
invariant-loop-folder l = (later : List EdgeValue)
    → AreEdges (packages_data l.lock) (members_view l.folder-iterator) later
    → AreEdges (packages_data l.lock) (members_view l.initial.folder-iterator) (map edge_value l.edges.items ++ later)
