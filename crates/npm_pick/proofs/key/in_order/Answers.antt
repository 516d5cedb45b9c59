use Rattle.std.proofs.Common.{subst, sym}
use Rattle.std.proofs.lemmas.List.Filters.{dedup_is}
use Rattle.std.proofs.lemmas.Result.{IfOk-weaker}
use Rattle.npm_pick.specs.Kept.{IsInOrder}
use Rattle.npm_pick.proofs.Ordered.{once_exact, once_in_order}
use Rattle.npm_pick.proofs.key.in_order.Goals as goal

pub returns-clause-ordered : goal.returns-clause-ordered
returns-clause-ordered c =
    let is = dedup_is _ _ _ c.dedup.ensures.filtered in
    let same = rw c.deref.ensures.value at c.texts_of_keys.ensures in
    IfOk-weaker c.texts_of_keys.result _ _ (λ texts e. subst IsInOrder (sym e)
    (once_in_order _ _ _ c.sort_unstable.ensures.permutation c.sort_unstable.ensures.sorted is c.requires)) same

pub returns-clause-exact : goal.returns-clause-exact
returns-clause-exact c =
    let is = dedup_is _ _ _ c.dedup.ensures.filtered in
    let same = rw c.deref.ensures.value at c.texts_of_keys.ensures in
    IfOk-weaker c.texts_of_keys.result _ _ (λ texts e key. rw e
    (once_exact _ _ _ c.sort_unstable.ensures.permutation c.sort_unstable.ensures.sorted is key)) same
