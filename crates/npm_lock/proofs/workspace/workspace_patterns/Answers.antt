-- The texts of the patterns are those of the grammar.
use Rattle.std.proofs.Common.{subst, sym}
use Rattle.std.proofs.lemmas.Result.{IfOk-weaker}
use Rattle.serde_json.specs.View.{view}
use Rattle.npm_lock.specs.Workspaces.{ArePatternsOfRoot}
use Rattle.npm_lock.proofs.Globs.Lists.{root-written}
use Rattle.npm_lock.proofs.workspace.workspace_patterns.Goals as goal

pub returns : goal.returns
returns c = IfOk-weaker c.read_patterns.result _ _
    (λ list is. subst (ArePatternsOfRoot (view c.args.root.now)) (sym is) (root-written (view c.args.root.now)))
    c.read_patterns.ensures
