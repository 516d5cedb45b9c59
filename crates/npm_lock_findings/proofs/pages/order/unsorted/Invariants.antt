-- The messages of the rows so far, and those that are left, are all.
use Rattle.std.proofs.Common.{◌≡◌, ◌++◌, drop, map}
use Rattle.npm_lock_findings.specs.Private.Said.{row_message}
use Rattle.npm_lock_findings.specs.Forms.{message_of}
use Rattle.npm_lock_findings.proofs.pages.order.unsorted.Given as goal

abbrev pub invariant-loop-index : goal.invariant-loop-index
invariant-loop-index l = map row_message l.rows.items ++ map message_of (drop l.index l.findings) ≡ map message_of l.findings
