-- The formula of the tree, at the cut before a release, is what the three texts admit.
use Rattle.std.proofs.Common.{ap}
use Rattle.std.proofs.lemmas.Result.{IfOk-weaker}
use Rattle.node_semver.specs.SetTree.{formula_of}
use Rattle.node_semver_callers.proofs.AdmittedCuts.{admits_releases-same, tree-cut}
use Rattle.node_semver_callers.proofs.tree.unhit_range.Goals as goal

pub returns : goal.returns
returns c =
    IfOk-weaker c.evaluate.result _ _ (admits_releases-same _ _
    (tree-cut c.args.one.now c.args.other.now c.args.advisory.now _ _ _ _ (ap formula_of c.in_ok-new.ensures.ok)
    c.in_ok-leaf.ensures c.in_ok-leaf-2.ensures c.in_ok-leaf-3.ensures)) c.evaluate.ensures.releases
