-- The byte before is a mark, or white space after one.
use Rattle.std.proofs.Common.{◌∙◌, arith, sym}
use Rattle.json_places.proofs.AfterMarks.{after_mark, after_space}
use Rattle.json_places.proofs.step_at.is_after_mark.Goals as goal

pub returns-then-is_mark : goal.returns-then-is_mark
returns-then-is_mark c = λ always. c.loop-at.invariant.1
    (after_mark c.args.text.now c.loop-at.at c.loop-at-test.true c.loop-at.invariant.0
    (sym c.is_mark.ensures ∙ c.if-is_mark.true))

pub loop-at-preserved : goal.loop-at-preserved
loop-at-preserved c = (
  omega (arith, c.loop-at.invariant.0),
  λ before. c.loop-at.invariant.1
      (after_space c.args.text.now c.loop-at.at c.loop-at-test.true c.loop-at.invariant.0
      (sym c.is_white_space.ensures ∙ c.if-not-is_white_space.false) before),
)
