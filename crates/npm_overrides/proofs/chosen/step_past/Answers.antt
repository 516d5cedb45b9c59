-- The rule is that of the root, or it fits, or what is around it counts.
use Rattle.std.proofs.Common.{arith}
use Rattle.npm_overrides.specs.Choice.{around, itself, none}
use Rattle.npm_overrides.specs.Rules.{rule_value}
use Rattle.npm_overrides.proofs.chosen.step_past.Goals as goal

pub returns-then-rule-at : goal.returns-then-rule-at
returns-then-rule-at c = λ rules there missed. none c.args.at (rule_value c.args.rule.now) there missed (omega arith)

pub returns-then-branch : goal.returns-then-branch
returns-then-branch c = λ rules there missed. itself c.args.at (rule_value c.args.rule.now) there missed (omega arith)
    (rw c.if-branch.true at c.in_ok-fits.ensures)

pub returns-else-branch : goal.returns-else-branch
returns-else-branch c = λ rules there missed. (
  omega arith,
  λ found counts. around c.args.at (rule_value c.args.rule.now) found there missed (omega arith)
      (rw c.if-branch.false at c.in_ok-fits.ensures) counts,
)
