-- What the manifests so far ask for.
use Rattle.std.proofs.Common.{map, take}
use Rattle.npm_packages.specs.Rules.{rule_at}
use Rattle.npm_resolve.specs.Asks.{ask_value}
use Rattle.npm_resolve.specs.Wishes.{AreWishes}
use Rattle.npm_resolve.proofs.wishes.wishes_of.Given as goal

abbrev pub invariant-loop-manifest : goal.invariant-loop-manifest
invariant-loop-manifest l = AreWishes (rule_at l.rules) l.omits (take l.manifest-index l.manifests) (map ask_value l.wishes.asks.items)
    (map ask_value l.wishes.left_out.items)
