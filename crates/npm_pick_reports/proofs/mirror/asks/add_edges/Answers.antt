-- The dependencies of one edge more.
use Rattle.std.proofs.Common.{◌∙◌, ◌++◌, [], ap, append_assoc, append-nil, refl, sym}
use Rattle.std.proofs.lemmas.List.{drop_all}
use Rattle.npm_pick_reports.proofs.Mirrors.{edges_from}
use Rattle.npm_pick_reports.proofs.mirror.asks.add_edges.Goals as goal

pub loop-edge-init : goal.loop-edge-init
loop-edge-init c = λ later are. (later, are, refl)

pub loop-edge-preserved : goal.loop-edge-preserved
loop-edge-preserved c = λ later are.
    let one = c.in_ok-add_edge.ensures in
    let all = c.loop-edge.invariant (one.0 ++ later) (edges_from c.args.edges.now c.loop-edge.edge-index
    _ one.0 later c.loop-edge-test.true one.1 are) in
    (all.0, all.1, ap (λ l. l ++ later) one.2 ∙ append_assoc _ one.0 later ∙ all.2)

pub returns : goal.returns
returns c =
    let all = c.loop-edge.invariant [] (rw (drop_all c.loop-edge.edge-index c.args.edges.now c.loop-edge-test.false) refl) in
    (all.0, all.1, sym (append-nil _) ∙ all.2)
