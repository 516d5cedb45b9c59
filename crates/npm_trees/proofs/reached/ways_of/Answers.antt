-- The ways of one dependency more.
use Rattle.std.proofs.Common.{◌∙◌, ◌<◌, arith, get_or, length, refl}
use Rattle.npm_trees.proofs.Ways.{no_ask, no_ways_yet, ways_more}
use Rattle.npm_trees.proofs.reached.ways_of.Goals as goal

pub loop-ask-init : goal.loop-ask-init
loop-ask-init c = record {
  ways = no_ways_yet c.args.places.now c.args.documents.now _ c.in_ok-ways.ensures.none;
  count = c.in_ok-ways.ensures.count;
}

pub add_way-requires : goal.add_way-requires
add_way-requires c =
    let below : (get_or c.args.asks.now c.loop-ask.ask-index no_ask).from < length c.args.places.now =
    c.requires.askers c.loop-ask.ask-index no_ask c.loop-ask-test.true in
    omega (arith, below, c.loop-ask.invariant.count)

pub loop-ask-preserved : goal.loop-ask-preserved
loop-ask-preserved c = record {
  ways = ways_more c.args.places.now c.args.documents.now c.args.asks.now c.loop-ask.ask-index
      (get_or c.args.asks.now c.loop-ask.ask-index no_ask) c.loop-ask-test.true no_ask refl c.loop-ask.ways.items _ c.wanted.result
      c.wanted.ensures c.in_ok-add_way.ensures.ways c.loop-ask.invariant.ways;
  count = c.in_ok-add_way.ensures.count ∙ c.loop-ask.invariant.count;
}
