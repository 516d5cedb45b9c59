-- The sets say which case of the definition this is.
use Rattle.npm_packages.specs.Folders.{IsInstalled}
use Rattle.npm_lock.specs.Private.Patterns.{matched, unmatched, unread}
use Rattle.npm_lock.specs.Workspaces.{installed}
use Rattle.npm_lock.specs.declared.workspace.Workspace.TheVariants.{Is, IsNot, Unread}
use Rattle.npm_lock.proofs.workspace.workspace_of.Goals as goal

pub returns-then-is_installed : goal.returns-then-is_installed
returns-then-is_installed c = installed (c.is_installed.ensures.0 c.if-is_installed.true)

pub returns-then-patterns : goal.returns-then-patterns
returns-then-patterns c =
    let outside : ¬ IsInstalled c.args.folder.now = λ inside.
    cc (c.is_installed.ensures.1 inside, c.if-is_installed.false) in
    c.requires c.args.folder.now Unread outside (unread c.if-patterns.true)

pub returns-then-has_matched : goal.returns-then-has_matched
returns-then-has_matched c =
    let outside : ¬ IsInstalled c.args.folder.now = λ inside.
    cc (c.is_installed.ensures.1 inside, c.if-is_installed.false) in
    c.requires c.args.folder.now Is outside
    (matched c.if-patterns.false (c.has_matched.ensures.0 c.if-has_matched.true))

pub returns-else-has_matched : goal.returns-else-has_matched
returns-else-has_matched c =
    let outside : ¬ IsInstalled c.args.folder.now = λ inside.
    cc (c.is_installed.ensures.1 inside, c.if-is_installed.false) in
    c.requires c.args.folder.now IsNot outside
    (unmatched c.if-patterns.false (λ has. cc (c.has_matched.ensures.1 has, c.if-has_matched.false)))
