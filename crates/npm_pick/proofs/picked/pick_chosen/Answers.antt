use Rattle.std.proofs.Common.{Bool, subst, sym}
use Rattle.serde_json.specs.View.{view}
use Rattle.npm_pick.specs.Pick.{IsAnswer, IsChosen, answer_value}
use Rattle.npm_pick.proofs.picked.pick_chosen.Goals as goal

pub returns-then-options : goal.returns-then-options
returns-then-options c =
    subst (λ (b : Bool). IsAnswer (IsChosen b (view c.args.packument.now) c.args.options.now c.args.wanted.now)
    (answer_value c.pick_strictly.result)) (sym c.if-options.true) c.pick_strictly.ensures

pub returns-else-options : goal.returns-else-options
returns-else-options c =
    subst (λ (b : Bool). IsAnswer (IsChosen b (view c.args.packument.now) c.args.options.now c.args.wanted.now)
    (answer_value c.pick_for.result)) (sym c.if-options.false) c.pick_for.ensures
