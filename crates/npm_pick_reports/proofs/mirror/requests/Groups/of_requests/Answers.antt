-- One request more.
use Rattle.npm_pick_reports.proofs.Grouping.{texts_more}
use Rattle.npm_pick_reports.proofs.mirror.requests.Groups.of_requests.Goals as goal

pub loop-request-preserved : goal.loop-request-preserved
loop-request-preserved c = λ name. texts_more name c.args.requests.now c.loop-request.request-index
    _ _ _ c.loop-request-test.true (c.in_ok-add.ensures name)
    (c.loop-request.invariant name)
