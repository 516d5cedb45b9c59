-- The package that asked last; and what is told so far, and of the dependencies that are left, is that of all.
use Rattle.std.proofs.Common.{◌≡◌, ◌++◌, drop, map}
use Rattle.serde_json.specs.View.{view}
use Rattle.npm_lock.specs.Outcomes.{dependency_value}
use Rattle.npm_packages.specs.Edges.{edge_value}
use Rattle.npm_lock_reports.specs.Needed.{told_in}
use Rattle.npm_lock_reports.specs.Private.Askers.{IsAsker}
use Rattle.npm_lock_reports.proofs.needed.told_of.Given as goal

abbrev pub invariant-loop-edge : goal.invariant-loop-edge
invariant-loop-edge l = IsAsker l.omissions (view l.lock) l.asker.folder.now l.asker
    × (map dependency_value l.list.items
    ++ told_in l.omissions (view l.lock) (map edge_value (drop l.edge-index l.edges))
    ≡ told_in l.omissions (view l.lock) (map edge_value l.edges))
