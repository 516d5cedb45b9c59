-- One byte more.
use Rattle.npm_lock_findings.proofs.Safe.{more, none}
use Rattle.npm_lock_findings.proofs.forms.escapes.push_address.Goals as goal

pub loop-byte-init : goal.loop-byte-init
loop-byte-init c = none c.args.form c.args.out.now.items

pub loop-byte-preserved : goal.loop-byte-preserved
loop-byte-preserved c = more c.args.form _ _ _ c.loop-byte.invariant c.in_ok-push_address_byte.ensures
