use Rattle.std.proofs.Common.{inr}
use Rattle.npm_pick.specs.Private.Picking as Picking
use Rattle.npm_pick.specs.Ranking.{rank_value, release_of}
use Rattle.npm_pick.proofs.ranged.pick_ranked.Goals as goal

pub returns-in-Some : goal.returns-in-Some
returns-in-Some c =
    let found = rw c.in-Some.is at c.in_ok-best.ensures in
    inr (Picking.best (release_of c.in-Some.best) (rank_value c.in-Some.best.rank) found)

pub returns-in-None : goal.returns-in-None
returns-in-None c = inr (Picking.late (c.has_none_in_time.ensures.0 c.if-has_none_in_time.true))

pub returns-in-None-2 : goal.returns-in-None-2
returns-in-None-2 c =
    let found = rw c.in-None-2.is at c.in_ok-best.ensures in
    inr (Picking.none (λ all. cc (c.has_none_in_time.ensures.1 all, c.if-has_none_in_time.false)) found)
