-- Under another name than its own it is none.
use Rattle.npm_lock.specs.Workspaces.{by_name, no_workspace, other_name}
use Rattle.npm_lock.proofs.workspace.workspace_as.Goals as goal

pub returns-in-IsNot : goal.returns-in-IsNot
returns-in-IsNot c = no_workspace (rw c.in-IsNot.is at c.workspace_of-said.ensures)

pub returns-then-is_named : goal.returns-then-is_named
returns-then-is_named c = by_name _ (c.is_named.ensures.0 c.if-is_named.true) c.workspace_of-said.ensures

pub returns-else-is_named : goal.returns-else-is_named
returns-else-is_named c = other_name (λ named. cc (c.is_named.ensures.1 named, c.if-is_named.false))
