-- The rules inside one rule more were added.
use Rattle.std.proofs.Common.{◌<◌, arith, length}
use Rattle.serde_json.specs.View.{view}
use Rattle.npm_overrides.specs.Rules.{root_rule, rule_value}
use Rattle.npm_overrides.proofs.Reading.{longer, rules_passed}
use Rattle.npm_overrides.proofs.rules.Rules.read.Goals as goal

pub loop-at-preserved : goal.loop-at-preserved
loop-at-preserved c =
    let small : c.loop-at.at < length c.loop-at.list.items = omega arith in
    record {
      within = longer rule_value c.loop-at.list.items c.add_inside.new.list.items c.loop-at.at _ small c.in_ok-add_inside.ensures;
      whole = rules_passed rule_value (view c.args.manifest.now) c.loop-at.at c.loop-at.list.items c.add_inside.new.list.items
          (root_rule (view c.args.manifest.now)) c.index.result.now small c.index.ensures c.in_ok-add_inside.ensures
          c.loop-at.invariant.whole;
    }
