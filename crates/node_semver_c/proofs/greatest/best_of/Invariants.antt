use Rattle.std.proofs.Common.{take}
use Rattle.std.specs.Option.{option_map}
use Rattle.node_semver.specs.Lemmas.GreatestViews.{order_of}
use Rattle.node_semver_c.specs.Greatest.{values}
use Rattle.node_semver_c.specs.Private.GreatestPlaces.{IsBestAtOrNone}
use Rattle.node_semver_c.proofs.greatest.best_of.Given as goal

abbrev pub invariant-versions : goal.invariant-versions
invariant-versions g l = IsBestAtOrNone (order_of l.upward) (g.A.Admits.admits l.asked)
    (values (take l.place l.versions)) (option_map (λ b. (b.0, b.1.now)) l.best)
