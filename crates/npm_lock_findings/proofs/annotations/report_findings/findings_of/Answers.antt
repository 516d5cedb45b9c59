-- One draft more.
use Rattle.std.proofs.Common.{◌≡◌, ◌++◌, ◌∷◌, [], false, rules}
use Rattle.npm_lock_findings.proofs.Flags.{one_more}
use Rattle.npm_lock_findings.proofs.annotations.report_findings.findings_of.Goals as goal

pub loop-thing-preserved : goal.loop-thing-preserved
loop-thing-preserved c =
    let more : c.push.new.self.items ≡ c.loop-thing.drafts.items ++ (c.in_ok-draft_of.field-0 ∷ []) = search rules in
    one_more _ _ c.in_ok-draft_of.field-0 c.loop-thing.thing-index false more c.in_ok-draft_of.ensures c.loop-thing.invariant
