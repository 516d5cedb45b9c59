-- The dependencies of the lock file's edges, and what is installed.
use Rattle.std.proofs.Common.{◌∙◌, Err, Some, ap, map, sym}
use Rattle.npm_packages.specs.Edges.{edge_value}
use Rattle.npm_pick_reports.proofs.mirror.asks.add_lock.Goals as goal

pub returns-clause-added : goal.returns-clause-added
returns-clause-added c =
    let found = rw c.deref.ensures.value at c.in_ok-add_edges.ensures in
    (found.0, record { edges = map edge_value c.in-Ok.edges.items; of_lock = c.in-Ok.ensures.found; are = found.1 }, found.2)

pub returns-clause-installed : goal.returns-clause-installed
returns-clause-installed c =
    let lock = c.in-Ok.ensures.found in
    record {
      members = lock.members;
      packages = lock.packages;
      edges = map edge_value c.in-Ok.edges.items;
      of_lock = lock;
      are = rw c.deref-2.ensures.value at (c.in_ok-installed_of.ensures lock.members lock.packages);
    }

pub returns-in-Err-Refused-clause-failed : goal.returns-in-Err-Refused-clause-failed
returns-in-Err-Refused-clause-failed c =
    (c.in-Err-Refused.ensures.refused c.in-Err-Refused.fault).0 (ap Err c.in-Err-Refused.field-0-is)
    ∙ ap Some (sym c.in-Err-Refused.fault-is)
