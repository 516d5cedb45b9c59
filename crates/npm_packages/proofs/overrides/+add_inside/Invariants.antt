-- What the members that are left add to the rules so far is what all add to the first ones.
use Rattle.std.proofs.Common.{◌≡◌, ℕ, List}
use Rattle.serde_json.specs.View.{members_view}
use Rattle.npm_packages.specs.Overrides.{both, is_named_among, rule_if, unread}
use Rattle.npm_packages.specs.Rules.{rule_at}
use Rattle.npm_packages.proofs.overrides.+add_inside.Given as goal

abbrev pub invariant-loop-key : goal.invariant-loop-key
invariant-loop-key l = (name : List ℕ)
    → both (rule_at l.rules name) (rule_if (is_named_among name (members_view l.key-iterator)) unread)
    ≡ both (rule_at l.initial.rules name) (rule_if (is_named_among name (members_view l.initial.key-iterator)) unread)
