-- One dependency more, of this package.
use Rattle.std.proofs.Common.{◌∙◌, ap, map, refl, sym}
use Rattle.serde_json.specs.View.{view}
use Rattle.npm_lock.specs.Mismatches.{member_at}
use Rattle.npm_lock.specs.Outcomes.{dependency_value}
use Rattle.npm_packages.specs.Edges.{edge_value}
use Rattle.npm_lock_reports.specs.Needed.{is_marked_at, told_if, told_in}
use Rattle.npm_lock_reports.proofs.Needing.{next_told}
use Rattle.npm_lock_reports.proofs.needed.told_of.Goals as goal

pub loop-edge-preserved : goal.loop-edge-preserved
loop-edge-preserved c =
    let asker = c.next_asker-asker.ensures in
    let here = sym asker.in_folder in (
      record {
        in_folder = refl;
        found = asker.found ∙ ap (member_at (view c.args.lock.now)) here;
        marked = asker.marked ∙ ap (is_marked_at c.args.omissions (view c.args.lock.now)) here;
      },
      next_told edge_value (told_if c.args.omissions (view c.args.lock.now)) c.args.edges.now c.loop-edge.edge-index _
          (map dependency_value c.loop-edge.list.items)
          (told_in c.args.omissions (view c.args.lock.now) (map edge_value c.args.edges.now)) _ c.loop-edge-test.true
          c.loop-edge.invariant.1 c.in_ok-push_told.ensures,
    )
