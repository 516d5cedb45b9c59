-- One draft more.
use Rattle.std.proofs.Common.{◌≡◌, ◌++◌, ◌∷◌, [], rules, true}
use Rattle.npm_lock_findings.proofs.Flags.{one_less}
use Rattle.npm_lock_findings.proofs.annotations.report_findings.push_excepted.Goals as goal

pub loop-one-preserved : goal.loop-one-preserved
loop-one-preserved c =
    let more : c.push.new.self.items ≡ c.loop-one.drafts.items ++ (c.in_ok-excepted_draft.field-0 ∷ []) = search rules in
    one_less c.args.all.now c.loop-one.one-index c.one-item.result c.loop-one-test.true _ _ c.in_ok-excepted_draft.field-0 true _
    more c.in_ok-excepted_draft.ensures c.loop-one.invariant
