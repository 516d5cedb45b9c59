-- A folder that a dependency finds is in the map, or the dependency is left.
use Rattle.std.proofs.Common.{◌⊎◌, ◌↔◌, ℕ, List, drop, map}
use Rattle.npm_packages.specs.Edges.{edge_value}
use Rattle.npm_packages.specs.Lemmas.FolderMaps.{HasFolder}
use Rattle.npm_pick_reports.specs.Installed.{IsFromElsewhere}
use Rattle.npm_pick_reports.proofs.mirror.installed.elsewhere_of.Given as goal

abbrev pub invariant-loop-edge : goal.invariant-loop-edge
invariant-loop-edge l = (folder : List ℕ) → IsFromElsewhere (map edge_value l.edges) folder
    ↔ (HasFolder l.folders folder ⊎ IsFromElsewhere (map edge_value (drop l.edge-index l.edges)) folder)
