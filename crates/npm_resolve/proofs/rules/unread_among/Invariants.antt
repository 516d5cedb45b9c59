-- Those so far, and then those that are left, are all whose rule is not read.
use Rattle.std.proofs.Common.{◌≡◌, ◌++◌, drop, map}
use Rattle.version_solving.specs.declared.ask.Listed.{Listed}
use Rattle.npm_packages.specs.Rules.{rule_at}
use Rattle.npm_resolve.specs.Texts.{text}
use Rattle.npm_resolve.specs.Rules as Counting
use Rattle.npm_resolve.proofs.rules.unread_among.Given as goal

abbrev pub invariant-loop-one : goal.invariant-loop-one
invariant-loop-one l = map text l.unread.items
    ++ Counting.unread_among (rule_at l.rules) (map (λ (one : Listed). one.name.now) (drop l.one-index l.names))
    ≡ Counting.unread_among (rule_at l.rules) (map (λ (one : Listed). one.name.now) l.names)
