-- The rules so far, and then those of the members that are left, are all.
use Rattle.std.proofs.Common.{◌≡◌, ◌++◌, map}
use Rattle.serde_json.specs.View.{members_view, view}
use Rattle.npm_overrides.specs.Rules.{rule_value, rules_among}
use Rattle.npm_overrides.proofs.rules.add_members.Given as goal

abbrev pub invariant-loop-key : goal.invariant-loop-key
invariant-loop-key l = map rule_value l.list.items ++ rules_among (view l.manifest) l.parent l.with_range (members_view l.key-iterator)
    ≡ map rule_value l.initial.list.items ++ rules_among (view l.manifest) l.parent l.with_range (members_view l.initial.key-iterator)
