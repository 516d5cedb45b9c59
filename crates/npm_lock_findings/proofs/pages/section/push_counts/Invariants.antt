-- No message more.
use Rattle.std.proofs.Common.{◌≡◌}
use Rattle.npm_lock_findings.specs.Private.Said.{said_in}
use Rattle.npm_lock_findings.proofs.pages.section.push_counts.Given as goal

abbrev pub invariant-loop-count : goal.invariant-loop-count
invariant-loop-count l = said_in l.pieces.items ≡ said_in l.initial.pieces.items
