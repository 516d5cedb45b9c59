-- The drafts so far, and one with a reason for each hit that is left, are all.
use Rattle.std.proofs.Common.{◌≡◌, ◌++◌, drop, length, map, replicate, true}
use Rattle.npm_lock_findings.proofs.Flags.{flag}
use Rattle.npm_lock_findings.proofs.annotations.report_findings.push_excepted.Given as goal

abbrev pub invariant-loop-one : goal.invariant-loop-one
invariant-loop-one l = map flag l.drafts.items ++ replicate (length (drop l.one-index l.all)) true
    ≡ map flag l.initial.drafts.items ++ replicate (length l.all) true
