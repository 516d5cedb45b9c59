-- One dependency more is met.
use Rattle.std.proofs.Common.{◌≡◌, false, refl}
use Rattle.std.proofs.lemmas.List.{take_all}
use Rattle.std.proofs.lemmas.List.Elements.{All-more}
use Rattle.npm_trees.specs.Meeting.{IsMetFor}
use Rattle.npm_trees.specs.declared.tree.Ask.{Ask}
use Rattle.npm_trees.proofs.met.are_met.Goals as goal

pub loop-ask-preserved : goal.loop-ask-preserved
loop-ask-preserved c = All-more (λ (ask : Ask). ask.bundled ≡ false → IsMetFor c.args.places.now ask) c.args.asks.now c.loop-ask.ask-index _
    c.loop-ask-test.true c.loop-ask.invariant (c.in_ok-met.ensures.0 c.if-not-met.false)

pub returns : goal.returns
returns c = (
  (λ is. rw (take_all c.loop-ask.ask-index c.args.asks.now c.loop-ask-test.false) at c.loop-ask.invariant),
  (λ all. refl),
)
