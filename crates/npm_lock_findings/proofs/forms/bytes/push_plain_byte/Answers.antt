-- A byte that is not special stands for itself.
use Rattle.std.proofs.Common.{◌∙◌, [], ◌∷◌, sym}
use Rattle.npm_lock_findings.specs.Forms.{itself, nothing}
use Rattle.npm_lock_findings.proofs.Safe.{none}
use Rattle.npm_lock_findings.proofs.forms.bytes.push_plain_byte.Goals as goal

pub returns-then-is_special : goal.returns-then-is_special
returns-then-is_special c = none c.args.form c.args.out.now.items

pub returns : goal.returns
returns c = (
  c.args.byte ∷ [],
  itself c.args.byte [] (sym c.is_special.ensures ∙ c.if-is_special.false) nothing,
  c.in_ok-push.ensures.items,
)
