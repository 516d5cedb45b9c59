-- The problems so far, and those of the workspaces that are left, are those of all.
use Rattle.std.proofs.Common.{◌≡◌, ◌++◌, drop, map}
use Rattle.serde_json.specs.View.{view}
use Rattle.npm_lock.specs.Outcomes.{problem_value}
use Rattle.npm_manifest_files.specs.Linked.{workspace_value}
use Rattle.npm_lock_check.specs.Report.{workspace_problems}
use Rattle.npm_lock_check.proofs.checks.workspace_problems.problems_of.Given as goal

abbrev pub invariant-loop-one : goal.invariant-loop-one
invariant-loop-one l = map problem_value l.list.items
    ++ workspace_problems (view l.lock) (map workspace_value (drop l.one-index l.workspaces))
    ≡ workspace_problems (view l.lock) (map workspace_value l.workspaces)
