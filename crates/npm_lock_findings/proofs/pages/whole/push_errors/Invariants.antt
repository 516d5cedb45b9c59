-- The messages so far, and those of the files that are left, are all.
use Rattle.std.proofs.Common.{◌≡◌, ◌++◌, drop, map}
use Rattle.npm_lock_findings.specs.Private.Said.{said_in}
use Rattle.npm_lock_findings.specs.Forms.{message_of}
use Rattle.npm_lock_findings.proofs.pages.whole.push_errors.Given as goal

abbrev pub invariant-loop-finding : goal.invariant-loop-finding
invariant-loop-finding l = said_in l.pieces.items ++ map message_of (drop l.finding-index l.refused)
    ≡ said_in l.initial.pieces.items ++ map message_of l.refused
