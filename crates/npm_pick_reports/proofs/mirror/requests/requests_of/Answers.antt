-- The requests of one dependency more.
use Rattle.std.proofs.Common.{[]}
use Rattle.npm_pick_reports.specs.Asks.{ask_value}
use Rattle.npm_pick_reports.specs.Mirror.{requests_by}
use Rattle.npm_pick.specs.Lemmas.Gathering.{made_all, made_at}
use Rattle.npm_pick_reports.proofs.mirror.requests.requests_of.Goals as goal

pub loop-ask-preserved : goal.loop-ask-preserved
loop-ask-preserved c = made_at ask_value c.args.asks.now requests_by [] c.loop-ask.ask-index
    _ _ _ c.loop-ask-test.true c.in_ok-push_request.ensures c.loop-ask.invariant

pub returns : goal.returns
returns c = made_all ask_value c.args.asks.now requests_by [] c.loop-ask.ask-index _ c.loop-ask-test.false
    c.loop-ask.invariant
