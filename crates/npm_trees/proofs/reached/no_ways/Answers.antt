-- One list more, which is empty.
use Rattle.std.proofs.Common.{arith}
use Rattle.std.proofs.lemmas.List.{length_push}
use Rattle.npm_trees.proofs.Ways.{no_way_more}
use Rattle.npm_trees.proofs.reached.no_ways.Goals as goal

pub loop-place-preserved : goal.loop-place-preserved
loop-place-preserved c = record {
  none = λ number to. rw c.in_ok-push.ensures.items (no_way_more c.loop-place.ways.items c.new.result c.new.ensures.items
      c.loop-place.invariant.none number to);
  count = rw c.in_ok-push.ensures.items (omega (arith, length_push c.loop-place.ways.items c.new.result, c.loop-place.invariant.count));
}
