-- The findings so far, and those of the drafts that are left, are all.
use Rattle.std.proofs.Common.{◌≡◌, ◌++◌, drop, is_some, map}
use Rattle.npm_lock_findings.proofs.draft.findings_in.Given as goal

abbrev pub invariant-loop-index : goal.invariant-loop-index
invariant-loop-index l = map (λ finding. is_some finding.suppression) l.findings.items
    ++ map (λ draft. is_some draft.suppression) (drop l.index l.drafts) ≡ map (λ draft. is_some draft.suppression) l.drafts
