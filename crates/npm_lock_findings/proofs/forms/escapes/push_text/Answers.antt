-- One byte more.
use Rattle.npm_lock_findings.proofs.Safe.{more, none}
use Rattle.npm_lock_findings.proofs.forms.escapes.push_text.Goals as goal

pub loop-index-init : goal.loop-index-init
loop-index-init c = none c.args.form c.args.out.now.items

pub loop-index-preserved : goal.loop-index-preserved
loop-index-preserved c = more c.args.form _ _ _ c.loop-index.invariant c.in_ok-push_byte.ensures
