use Rattle.std.proofs.Common.{refl}
use Rattle.node_semver_c.specs.Greatest.{values}
use Rattle.node_semver_c.proofs.GreatestPlaces.{some-admitted}
use Rattle.node_semver_c.proofs.greatest.place_of_best.Goals as goal
use Rattle.node_semver.specs.Lemmas.GreatestViews.{order_of}

pub returns-in-Some-clause-best : goal.returns-in-Some-clause-best
returns-in-Some-clause-best g c _ =
    let first = c.in-Some.ensures in
    record { best = c.in-Some.field-0-1.now; first = first.0; place_is = first.1 }

pub returns-in-Some-clause-none : goal.returns-in-Some-clause-none
returns-in-Some-clause-none g c = (
  (λ never. absurd (never refl)),
  λ none _. some-admitted (order_of c.args.upward) (g.A.Admits.admits c.args.asked.now) (values c.args.versions.now)
      c.in-Some.found c.in-Some.field-0-1.now c.in-Some.ensures none,
)
