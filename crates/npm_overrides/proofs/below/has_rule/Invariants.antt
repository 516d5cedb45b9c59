-- The members that are left have a rule if all have one.
use Rattle.std.proofs.Common.{◌≡◌}
use Rattle.serde_json.specs.View.{members_view}
use Rattle.npm_overrides.specs.Choice.{has_rule}
use Rattle.npm_overrides.proofs.below.has_rule.Given as goal

abbrev pub invariant-loop-key : goal.invariant-loop-key
invariant-loop-key l = has_rule (members_view l.key-iterator) ≡ has_rule (members_view l.initial.key-iterator)
