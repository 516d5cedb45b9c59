-- The map has the names of the dependencies so far.
use Rattle.std.proofs.Common.{◌≡◌, ℕ, List, map, take}
use Rattle.npm_packages.specs.Aliases.{first_alias, name_at}
use Rattle.npm_packages.specs.Edges.{edge_value}
use Rattle.npm_packages.proofs.aliases.Aliases.of_edges.Given as goal

abbrev pub invariant-loop-edge : goal.invariant-loop-edge
invariant-loop-edge l = (folder : List ℕ)
    → name_at l.aliases folder ≡ first_alias folder (map edge_value (take l.edge-index l.edges))
