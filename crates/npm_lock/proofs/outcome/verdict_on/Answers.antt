use Rattle.std.proofs.lemmas.Result.{IfOk-weaker}
use Rattle.npm_lock.specs.Outcomes.{by_spec, overridden, unread, workspace}
use Rattle.npm_lock.proofs.outcome.verdict_on.Goals as goal

pub returns-in-Is : goal.returns-in-Is
returns-in-Is c = workspace (rw c.in-Is.is at c.workspace_as.ensures)

pub returns-in-Unread : goal.returns-in-Unread
returns-in-Unread c = unread (rw c.in-Unread.is at c.workspace_as.ensures)

pub returns-in-IsNot : goal.returns-in-IsNot
returns-in-IsNot c = overridden (rw c.in-IsNot.is at c.workspace_as.ensures) c.if-asked.true

pub returns-in-IsNot-2 : goal.returns-in-IsNot-2
returns-in-IsNot-2 c = IfOk-weaker c.verdict_of_both.result _ _
    (λ verdict both. by_spec verdict (rw c.in-IsNot-2.is at c.workspace_as.ensures) c.if-asked.false both)
    (rw c.version_of-version.ensures at c.verdict_of_both.ensures)
