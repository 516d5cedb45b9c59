-- One after the other.
use Rattle.npm_lock_findings.specs.declared.forms.piece.Form.TheVariants.{Json}
use Rattle.npm_lock_findings.proofs.Safe.{then_more}
use Rattle.npm_lock_findings.proofs.forms.escapes.push_json_byte.Goals as goal

pub returns-in_ok-push_escape : goal.returns-in_ok-push_escape
returns-in_ok-push_escape c = then_more Json _ _ _ c.push_plain.result c.in_ok-push_escape.ensures c.push_plain.ensures
