-- The version that is picked, or the reason why none is.
use Rattle.serde_json.specs.View.{view}
use Rattle.npm_pick.specs.Pick.{picked_value}
use Rattle.npm_pick_reports.proofs.Replies.{nothing_reply, some_reply}
use Rattle.npm_pick_reports.proofs.reply.picked_reply.Goals as goal

pub returns-in-Ok-clause-reply : goal.returns-in-Ok-clause-reply
returns-in-Ok-clause-reply c = some_reply (view c.args.packument.now) c.args.options.now c.args.wanted.now
    (picked_value c.in-Ok.picked) (rw c.in-Ok.is at c.pick.ensures)

pub returns-in_default-clause-reply : goal.returns-in_default-clause-reply
returns-in_default-clause-reply c = nothing_reply (view c.args.packument.now) c.args.options.now c.args.wanted.now
    c.in-Err.error c.in_default.not-Memory (rw c.in-Err.is at c.pick.ensures)
