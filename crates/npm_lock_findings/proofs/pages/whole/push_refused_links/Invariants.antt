-- No message more.
use Rattle.std.proofs.Common.{◌≡◌}
use Rattle.npm_lock_findings.specs.Private.Said.{said_in}
use Rattle.npm_lock_findings.proofs.pages.whole.push_refused_links.Given as goal

abbrev pub invariant-loop-finding : goal.invariant-loop-finding
invariant-loop-finding l = said_in l.pieces.items ≡ said_in l.initial.pieces.items
