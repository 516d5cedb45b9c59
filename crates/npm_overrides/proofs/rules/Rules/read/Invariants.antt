-- The rules so far are those inside the rules that were passed.
use Rattle.std.proofs.Common.{◌≡◌, ◌≤◌, ◌-◌, ◌^◌, ◌∷◌, length, map, take}
use Rattle.serde_json.specs.View.{view}
use Rattle.npm_overrides.specs.Rules.{all_inside, root_rule, rule_value}
use Rattle.npm_overrides.proofs.rules.Rules.read.Given as goal

abbrev pub invariant-loop-at : goal.invariant-loop-at
invariant-loop-at l = record {
  within : l.at ≤ length l.list.items;
  whole : map rule_value l.list.items
      ≡ root_rule (view l.manifest) ∷ all_inside (view l.manifest) 0 (take l.at (map rule_value l.list.items));
}

abbrev pub decreases-loop-at : goal.decreases-loop-at
decreases-loop-at l = 2 ^ 64 - l.at
