-- No message more.
use Rattle.std.proofs.Common.{◌≡◌}
use Rattle.npm_lock_findings.specs.Private.Said.{said_in}
use Rattle.npm_lock_findings.proofs.pages.section.push_addresses.Given as goal

abbrev pub invariant-loop-about : goal.invariant-loop-about
invariant-loop-about l = said_in l.pieces.items ≡ said_in l.initial.pieces.items
