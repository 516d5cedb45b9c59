-- The folder, the link and the ways, one after the other.
use Rattle.std.proofs.lemmas.Result.{on_ok_weaker}
use Rattle.npm_trees.proofs.Reaching.{next_added}
use Rattle.npm_trees.proofs.reached.add_next.Goals as goal

pub returns : goal.returns
returns c = on_ok_weaker c.add_all.result (λ added. next_added c.args.places.now c.args.ways.now c.args.number c.args.found.now _ _ _
    c.up_of.result c.link_of.result c.ways_from.result.now c.up_of.ensures c.link_of.ensures c.ways_from.ensures
    c.in_ok-add_some.ensures c.in_ok-add_some-2.ensures added) c.add_all.ensures
