-- Each part was tested.
use Rattle.std.proofs.Common.{arith}
use Rattle.std.proofs.lemmas.Bool.Decides.{nat_tests}
use Rattle.std.proofs.lemmas.Result.{IfOk-weaker}
use Rattle.npm_trees.proofs.Wholeness.{whole_by}
use Rattle.npm_trees.proofs.whole.whole_folders.Goals as goal

pub returns : goal.returns
returns c = IfOk-weaker c.folders_of.result _ _ (whole_by c.args.places.now c.args.documents.now c.args.asks.now (grind (arith, nat_tests))
    (c.are_in_folders.ensures.0 c.if-not-are_in_folders.false) (c.may_all_stand.ensures.0 c.if-not-may_all_stand.false)
    (c.are_askers.ensures.0 c.if-not-are_askers.false)) c.folders_of.ensures
