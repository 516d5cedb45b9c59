-- One place more was found, or was not.
use Rattle.std.proofs.Common.{◌≡◌, arith, below_more, refl, true}
use Rattle.std.proofs.lemmas.Option.{slice_get_within}
use Rattle.npm_trees.proofs.Indexed.{some_at}
use Rattle.npm_trees.proofs.reached.are_reached.Goals as goal

pub returns-then-not-has : goal.returns-then-not-has
returns-then-not-has c = (
  (λ never. cc never),
  (λ all.
      let here = some_at c.args.places.now c.loop-number.number c.loop-number-test.true in
      let found : c.has.result ≡ true = c.has.ensures.1 ((c.in_ok-reached.ensures.reached c.loop-number.number).1 (all c.loop-number.number here.0 here.1)) in
      cc (found, c.if-not-has.true)),
)

pub loop-number-preserved : goal.loop-number-preserved
loop-number-preserved c = below_more _ _ c.loop-number.invariant (c.has.ensures.0 c.if-not-has.false)

pub returns : goal.returns
returns c = (
  (λ is number place there. (c.in_ok-reached.ensures.reached number).0 (c.loop-number.invariant number
      (omega (arith, slice_get_within c.args.places.now number place there, c.loop-number-test.false)))),
  (λ all. refl),
)
