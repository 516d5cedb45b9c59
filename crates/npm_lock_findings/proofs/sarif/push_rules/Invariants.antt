-- No message was added.
use Rattle.std.proofs.Common.{◌≡◌}
use Rattle.npm_lock_findings.specs.Private.Said.{said_in}
use Rattle.npm_lock_findings.proofs.sarif.push_rules.Given as goal

abbrev pub invariant-loop-rule : goal.invariant-loop-rule
invariant-loop-rule l = said_in l.pieces.items ≡ said_in l.initial.pieces.items
