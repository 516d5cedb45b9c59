-- The map has the texts of the dependencies so far.
use Rattle.std.proofs.Common.{ℕ, List, map, take}
use Rattle.npm_packages.specs.Dependents.{AreTextsFor, texts_at}
use Rattle.npm_packages.specs.Edges.{edge_value}
use Rattle.npm_packages.proofs.dependents.Dependents.of_edges.Given as goal

abbrev pub invariant-loop-edge : goal.invariant-loop-edge
invariant-loop-edge l = (folder : List ℕ)
    → AreTextsFor folder (map edge_value (take l.edge-index l.edges)) (texts_at l.dependents folder)
