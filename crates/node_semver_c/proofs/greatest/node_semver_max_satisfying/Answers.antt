use Rattle.std.proofs.Common.{subst}
use Rattle.node_semver_c.specs.Greatest.{IsGreatestAt, values}
use Rattle.node_semver_c.proofs.GreatestPlaces.{greatest-at}
use Rattle.node_semver_c.proofs.greatest.node_semver_max_satisfying.Goals as goal
use Rattle.semver_sets.specs.Meaning.{RangeAdmits}

pub returns-clause-greatest : goal.returns-clause-greatest
returns-clause-greatest c found =
    let versions = values c.args.versions.now in
    subst (λ sets. IsGreatestAt (RangeAdmits sets) versions c.place_of_best.new.place) c.get.ensures
    (greatest-at (RangeAdmits c.get.result.now) versions c.place_of_best.new.place (c.place_of_best.ensures.best found))
