-- Those so far belong to the items so far.
use Rattle.std.proofs.Common.{take}
use Rattle.npm_packages.specs.Rules.{rule_at}
use Rattle.npm_resolve.specs.Instance.{AreListed}
use Rattle.npm_resolve.proofs.instance.askers_of.Given as goal

abbrev pub invariant-loop-candidate : goal.invariant-loop-candidate
invariant-loop-candidate l = AreListed l.reach (rule_at l.rules) l.omits (take l.candidate-index l.candidates) l.askers.items
