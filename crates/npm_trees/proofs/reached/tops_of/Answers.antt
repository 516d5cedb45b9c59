-- One place more, which is a top or not.
use Rattle.std.proofs.Common.{arith}
use Rattle.npm_trees.proofs.Reaching.{none_in}
use Rattle.npm_trees.proofs.Ways.{top_within, tops_more}
use Rattle.npm_trees.proofs.reached.tops_of.Goals as goal

pub loop-number-init : goal.loop-number-init
loop-number-init c = record {
  marked = c.new-reached.ensures.marked;
  tops = λ k. ((λ has. absurd (none_in k (rw c.new-reached.ensures.none at has))), (λ both. absurd (omega (arith, both.0))));
}

pub loop-number-preserved : goal.loop-number-preserved
loop-number-preserved c = record {
  marked = c.in_ok-add_some.ensures.marked;
  tops = λ k. tops_more c.args.places.now c.loop-number.number c.top_at.result c.top_at.ensures c.loop-number.reached _
      c.loop-number.invariant.tops c.in_ok-add_some.ensures k;
}

pub returns-clause-tops : goal.returns-clause-tops
returns-clause-tops c = λ number. (
  (λ has. ((c.loop-number.invariant.tops number).0 has).1),
  (λ is. (c.loop-number.invariant.tops number).1
      (omega (arith, top_within c.args.places.now number is, c.loop-number-test.false), is)),
)
