-- The patterns that are left decide.
use Rattle.std.proofs.Common.{◌≡◌, drop}
use Rattle.serde_json.specs.View.{items_view}
use Rattle.npm_lock_reports.specs.Projects as Projects
use Rattle.npm_lock_reports.proofs.workspace.matches_one.Given as goal

abbrev pub invariant-loop-pattern : goal.invariant-loop-pattern
invariant-loop-pattern l = Projects.matches_one l.folder (items_view l.patterns)
    ≡ Projects.matches_one l.folder (items_view (drop l.pattern-index l.patterns))
