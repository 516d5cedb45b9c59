-- One place, or none.
use Rattle.std.proofs.Common.{◌≡◌, ◌∙◌, ap, Some}
use Rattle.std.proofs.lemmas.Result.{on_ok_weaker}
use Rattle.npm_trees.proofs.Reaching.{alike, nothing_added}
use Rattle.npm_trees.proofs.found.Found.add_some.Goals as goal

pub returns-in-Some : goal.returns-in-Some
returns-in-Some c = on_ok_weaker c.add.result (λ added. alike (λ other. c.in-Some.number ≡ other) _ _ added (λ other. c.args.number ≡ Some other)
    (λ other same. c.in-Some.is ∙ ap Some same) (λ other is. cc (c.in-Some.is, is))) c.add.ensures

pub returns-in-None : goal.returns-in-None
returns-in-None c = nothing_added (λ other. c.args.number ≡ Some other) c.args.self.now c.requires (λ other is. cc (c.in-None.is, is))
