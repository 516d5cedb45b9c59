-- No message more.
use Rattle.std.proofs.Common.{◌≡◌}
use Rattle.npm_lock_findings.specs.Private.Said.{said_in}
use Rattle.npm_lock_findings.proofs.pages.whole.push_checked_links.Given as goal

abbrev pub invariant-loop-one : goal.invariant-loop-one
invariant-loop-one l = said_in l.pieces.items ≡ said_in l.initial.pieces.items
