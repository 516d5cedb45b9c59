-- One rule more does not fit.
use Rattle.std.proofs.Common.{map}
use Rattle.npm_overrides.specs.Rules.{rule_value}
use Rattle.npm_overrides.proofs.Choosing.{none_found, there_at}
use Rattle.npm_overrides.proofs.rules.Rules.first_inside.Goals as goal

pub loop-at-preserved : goal.loop-at-preserved
loop-at-preserved c = none_found (map rule_value c.args.self.now.list.items) c.args.parent c.args.name.now c.args.spec.now
    c.loop-at.at (rule_value c.rule-item.result) c.in_ok-fits_inside.field-0
    (there_at c.args.self.now.list.items c.deref-rule-items.result.now c.loop-at.at c.rule-item.result
    c.deref-rule-items.ensures.value c.loop-at-test.true c.rule-item.is)
    c.in_ok-fits_inside.ensures c.if-branch.false c.loop-at.invariant
