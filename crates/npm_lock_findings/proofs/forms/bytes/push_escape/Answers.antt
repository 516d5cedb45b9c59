-- An escape stands for a special byte.
use Rattle.std.proofs.Common.{◌∙◌, ◌++◌, [], ap, append-nil, sym}
use Rattle.npm_lock_findings.specs.Forms.{escape, nothing}
use Rattle.npm_lock_findings.proofs.Safe.{none}
use Rattle.npm_lock_findings.proofs.forms.bytes.push_escape.Goals as goal

pub returns-then-not-is_escape : goal.returns-then-not-is_escape
returns-then-not-is_escape c = none c.args.form c.args.out.now.items

pub returns : goal.returns
returns c = (
  c.args.escape.now ++ [],
  escape c.args.escape.now [] (sym c.is_escape.ensures ∙ c.if-not-is_escape.false) nothing,
  c.in_ok-extend_from_slice.ensures.items ∙ ap (λ l. c.args.out.now.items ++ l)
      (c.as_bytes.ensures.value ∙ sym (append-nil c.args.escape.now)),
)
