-- No rule so far fits.
use Rattle.std.proofs.Common.{map}
use Rattle.npm_overrides.specs.Choice.{NoneBefore}
use Rattle.npm_overrides.specs.Rules.{rule_value}
use Rattle.npm_overrides.proofs.rules.Rules.first_inside.Given as goal

abbrev pub invariant-loop-at : goal.invariant-loop-at
invariant-loop-at l = NoneBefore (map rule_value l.self.list.items) l.parent l.name l.spec l.at
