-- The messages so far, and those of the findings that are left, are all.
use Rattle.std.proofs.Common.{◌≡◌, ◌++◌, drop, map}
use Rattle.npm_lock_findings.specs.Private.Said.{said_in}
use Rattle.npm_lock_findings.specs.Forms.{message_of}
use Rattle.npm_lock_findings.proofs.pages.junit.push_cases.Given as goal

abbrev pub invariant-loop-index : goal.invariant-loop-index
invariant-loop-index l = said_in l.pieces.items ++ map message_of (drop l.index l.findings)
    ≡ said_in l.initial.pieces.items ++ map message_of l.findings
