-- The dependencies so far, and then those of the edges that are left, are all dependencies.
use Rattle.std.proofs.Common.{◌≡◌, ◌++◌, List, drop, map}
use Rattle.npm_packages.specs.Edges.{edge_value}
use Rattle.npm_pick_reports.specs.Asks.{AreAsksOfEdges, AskValue, ask_value}
use Rattle.npm_pick_reports.proofs.mirror.asks.add_edges.Given as goal

abbrev pub invariant-loop-edge : goal.invariant-loop-edge
invariant-loop-edge l = (later : List AskValue) → AreAsksOfEdges (map edge_value (drop l.edge-index l.edges)) later
    → (found : List AskValue) × AreAsksOfEdges (map edge_value l.edges) found
    × (map ask_value l.asks.items ++ later ≡ map ask_value l.initial.asks.items ++ found)
