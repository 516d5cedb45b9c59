-- No draft so far has a reason.
use Rattle.std.proofs.Common.{◌≡◌, false, map, replicate}
use Rattle.npm_lock_findings.proofs.Flags.{flag}
use Rattle.npm_lock_findings.proofs.annotations.report_findings.findings_of.Given as goal

abbrev pub invariant-loop-thing : goal.invariant-loop-thing
invariant-loop-thing l = map flag l.drafts.items ≡ replicate l.thing-index false
