-- What the members that are left add to the rules so far is what all say.
use Rattle.std.proofs.Common.{◌≡◌, ℕ, List}
use Rattle.serde_json.specs.View.{members_view}
use Rattle.npm_packages.specs.Overrides.{both, rule_among}
use Rattle.npm_packages.specs.Rules.{rule_at}
use Rattle.npm_packages.proofs.overrides.rules_among.Given as goal

abbrev pub invariant-loop-key : goal.invariant-loop-key
invariant-loop-key l = (name : List ℕ) → both (rule_at l.rules name) (rule_among name (members_view l.key-iterator))
    ≡ rule_among name (members_view l.initial.key-iterator)
