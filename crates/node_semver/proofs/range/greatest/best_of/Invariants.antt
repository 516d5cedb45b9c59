use Rattle.std.proofs.Common.{map, take}
use Rattle.std.specs.Option.{option_map}
use Rattle.node_semver.specs.Lemmas.GreatestViews.{IsBestOrNone, order_of}
use Rattle.node_semver.proofs.range.greatest.best_of.Given as goal

abbrev pub invariant-versions : goal.invariant-versions
invariant-versions g l =
    IsBestOrNone (order_of l.upward) (g.A.Admits.admits l.asked)
    (map g.V.AsVersion.seen (take l.version-index l.versions))
    (option_map (λ v. g.V.AsVersion.seen v.now) l.best)
