-- One after the other.
use Rattle.npm_lock_findings.specs.declared.forms.piece.Form.TheVariants.{Json}
use Rattle.npm_lock_findings.proofs.Safe.{then_more}
use Rattle.npm_lock_findings.proofs.forms.escapes.push_message_byte.Goals as goal

pub returns : goal.returns
returns c = then_more Json _ _ _ c.push_json_byte.result c.in_ok-push_mark.ensures c.push_json_byte.ensures
