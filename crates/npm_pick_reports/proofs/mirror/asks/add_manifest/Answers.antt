-- The four groups, one after another.
use Rattle.std.proofs.Common.{append_assoc}
use Rattle.npm_pick_reports.proofs.mirror.asks.add_manifest.Goals as goal

pub returns : goal.returns
returns c = rw (c.in_ok-add_group-4.ensures, c.in_ok-add_group-3.ensures, c.in_ok-add_group-2.ensures, c.in_ok-add_group.ensures)
    (simp append_assoc)
