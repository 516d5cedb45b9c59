use Rattle.std.proofs.Common.{[]}
use Rattle.std.proofs.lemmas.Result.{IfOk-weaker}
use Rattle.npm_pick.proofs.rank.best.best_of.Goals as goal

pub returns : goal.returns
returns c =
    let first = rw c.versions_of.ensures at c.in_ok-best.ensures in
    let second = rw c.requires.staged at c.in_ok-best-2.ensures in
    let third = rw c.requires.restricted at c.best_in-3.ensures in
    IfOk-weaker c.best_in-3.result _ _ (λ found with. with _ (second _ (first [] tt))) third
