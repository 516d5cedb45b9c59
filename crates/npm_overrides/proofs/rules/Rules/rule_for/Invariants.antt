-- What counts here counts for the dependency.
use Rattle.std.proofs.Common.{ℕ, Option, map}
use Rattle.npm_overrides.specs.Choice.{Counts}
use Rattle.npm_overrides.specs.Rules.{rule_value}
use Rattle.npm_overrides.proofs.rules.Rules.rule_for.Given as goal

abbrev pub invariant-loop-found : goal.invariant-loop-found
invariant-loop-found l = (found : Option ℕ) → Counts (map rule_value l.self.list.items) l.name l.spec l.at found
    → Counts (map rule_value l.self.list.items) l.name l.spec l.counts found

abbrev pub decreases-loop-found : goal.decreases-loop-found
decreases-loop-found l = l.at
