-- The messages so far, and those of the rows that are left, are all.
use Rattle.std.proofs.Common.{◌≡◌, ◌++◌, drop, map}
use Rattle.npm_lock_findings.specs.Private.Said.{row_message, said_in}
use Rattle.npm_lock_findings.proofs.pages.section.push_rows.Given as goal

abbrev pub invariant-loop-index : goal.invariant-loop-index
invariant-loop-index l = said_in l.pieces.items ++ map row_message (drop l.index l.rows)
    ≡ said_in l.initial.pieces.items ++ map row_message l.rows
