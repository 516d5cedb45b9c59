-- The first ones are the tops, one place more leads on, and at the end all are read.
use Rattle.std.proofs.Common.{◌≡◌, None, Some, slice_get}
use Rattle.npm_trees.proofs.Reaching.{all_reached, begins, held_more}
use Rattle.npm_trees.proofs.reached.reached_from.Goals as goal

pub loop-step-init : goal.loop-step-init
loop-step-init c = begins c.args.places.now c.args.documents.now c.args.asks.now c.args.ways.now c.requires _
    c.in_ok-reached.ensures.marked c.in_ok-reached.ensures.tops

pub loop-step-preserved : goal.loop-step-preserved
loop-step-preserved c =
    let here : slice_get c.loop-step.reached.order.items c.loop-step.step ≡ Some c.in-Some.number = cc (c.at.ensures, c.in-Some.is) in
    held_more c.args.places.now c.args.documents.now c.args.asks.now c.args.ways.now c.requires c.loop-step.step c.in-Some.number
    c.loop-step.reached _ c.loop-step.invariant here c.in_ok-add_next.ensures

pub returns-in_default-clause-reached : goal.returns-in_default-clause-reached
returns-in_default-clause-reached c =
    let done : slice_get c.loop-step.reached.order.items c.loop-step.step ≡ None = cc (c.at.ensures, c.in_default.is) in
    all_reached c.args.places.now c.args.documents.now c.args.asks.now c.args.ways.now c.requires c.loop-step.step c.loop-step.reached
    c.loop-step.invariant done
