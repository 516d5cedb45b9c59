-- It is inside the package, or what is seen answers.
use Rattle.std.proofs.lemmas.Result.{IfOk-weaker}
use Rattle.npm_trees.proofs.Meeting.{answered_is_met, local_fails}
use Rattle.npm_trees.proofs.met.is_met.Goals as goal

pub returns-then-is_local : goal.returns-then-is_local
returns-then-is_local c = (
  (λ never. cc never),
  (λ met. absurd (local_fails c.args.places.now c.args.ask.now (c.is_local.ensures.0 c.if-is_local.true) met)),
)

pub returns : goal.returns
returns c =
    let both = answered_is_met c.args.places.now c.args.ask.now c.seen_from-found.result (rw c.start_of.ensures at c.seen_from-found.ensures)
    (λ local. cc (c.is_local.ensures.1 local, c.if-is_local.false)) in
    IfOk-weaker c.is_answered.result _ _ (λ is told. ((λ is_so. both.0 (told.0 is_so)), (λ met. told.1 (both.1 met)))) c.is_answered.ensures
