-- The outcomes of the dependencies of the lock file.
use Rattle.std.proofs.Common.{◌∙◌, Err, Some, ap, inl, map, sym}
use Rattle.npm_packages.specs.Edges.{edge_value}
use Rattle.npm_pick_reports.specs.Reply.{of_lock}
use Rattle.npm_pick_reports.proofs.reply.compared_reply.Goals as goal

pub returns-in-Ok-outcomes_of-clause-reply : goal.returns-in-Ok-outcomes_of-clause-reply
returns-in-Ok-outcomes_of-clause-reply g c = of_lock (map edge_value c.in-Ok.edges.items) _ c.in-Ok.ensures.found
    (rw c.deref.ensures.value at c.in-Ok-outcomes_of.ensures.found)

pub returns-in-Err-Refused-clause-failed : goal.returns-in-Err-Refused-clause-failed
returns-in-Err-Refused-clause-failed g c =
    inl ((c.in-Err-Refused.ensures.refused c.in-Err-Refused.fault).0 (ap Err c.in-Err-Refused.field-0-is)
    ∙ ap Some (sym c.in-Err-Refused.fault-is))
