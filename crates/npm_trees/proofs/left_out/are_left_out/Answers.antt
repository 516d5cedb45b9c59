-- One dependency more is told where it is left out, or is not.
use Rattle.std.proofs.Common.{◌↔◌, refl}
use Rattle.std.proofs.lemmas.Option.{slice_get-get_or}
use Rattle.std.specs.List.{Contains}
use Rattle.npm_trees.specs.LeftOut.{IsLeftOut}
use Rattle.npm_trees.specs.declared.tree.Ask.{Ask}
use Rattle.npm_trees.proofs.Indexed.{all_at, more_by}
use Rattle.npm_trees.proofs.Telling.{all_told, other_at, same_at, told_at, told_below}
use Rattle.npm_trees.proofs.left_out.are_left_out.Goals as goal

pub returns-then-not-are_below : goal.returns-then-not-are_below
returns-then-not-are_below c = (
  (λ never. cc never),
  (λ are. absurd (cc (c.are_below.ensures.1 (told_below c.args.places.now c.args.asks.now c.args.left_out.now are), c.if-not-are_below.true))),
)

pub returns-then-not-are_same : goal.returns-then-not-are_same
returns-then-not-are_same c = (
  (λ never. cc never),
  (λ are. absurd (other_at c.args.places.now c.args.left_out.now c.new-told.result c.add_all.new.self c.new-told.ensures.none
      c.in_ok-add_all.ensures c.loop-number.number _ c.has-is_told.result c.is_left_out-is_left.result c.has-is_told.ensures
      c.is_left_out-is_left.ensures (λ same. cc (c.are_same.ensures.1 same, c.if-not-are_same.true))
      (told_at c.args.places.now c.args.asks.now c.args.left_out.now c.loop-number.number _
      (slice_get-get_or c.args.asks.now c.loop-number.number _ c.loop-number-test.true) are))),
)

pub loop-number-preserved : goal.loop-number-preserved
loop-number-preserved c = more_by (λ number (ask : Ask). Contains c.args.left_out.now number ↔ IsLeftOut c.args.places.now ask) c.args.asks.now
    c.loop-number.number _ c.loop-number-test.true c.loop-number.invariant
    (same_at c.args.places.now c.args.left_out.now c.new-told.result c.add_all.new.self c.new-told.ensures.none
    c.in_ok-add_all.ensures c.loop-number.number _ c.has-is_told.result c.is_left_out-is_left.result c.has-is_told.ensures
    c.is_left_out-is_left.ensures (c.are_same.ensures.0 c.if-not-are_same.false))

pub returns : goal.returns
returns c = (
  (λ yes number. all_told c.args.places.now c.args.asks.now c.args.left_out.now (c.are_below.ensures.0 c.if-not-are_below.false)
      (all_at (λ number (ask : Ask). Contains c.args.left_out.now number ↔ IsLeftOut c.args.places.now ask) c.args.asks.now
      c.loop-number.number c.loop-number-test.false c.loop-number.invariant) number),
  (λ are. refl),
)
