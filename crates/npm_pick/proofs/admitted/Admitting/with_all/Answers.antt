use Rattle.std.proofs.lemmas.Result.{IfOk-weaker}
use Rattle.npm_pick.proofs.Added.{both_added}
use Rattle.npm_pick.proofs.admitted.Admitting.with_all.Goals as goal

pub returns : goal.returns
returns c =
    let first = rw c.versions_of.ensures at c.in_ok-keys.ensures in
    let second = rw c.staged_of.ensures at c.in_ok-keys-2.ensures in
    let third = rw c.restricted_of.ensures at c.with_listed-3.ensures in
    IfOk-weaker c.with_listed-3.result _ _
    (λ new added. both_added _ _ _ _ _ _ _ _ (both_added _ _ _ _ _ _ _ _ first second) added) third
