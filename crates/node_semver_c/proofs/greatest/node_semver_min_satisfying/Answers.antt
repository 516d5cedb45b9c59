use Rattle.std.proofs.Common.{subst}
use Rattle.node_semver_c.specs.Greatest.{IsLeastAt, values}
use Rattle.node_semver_c.proofs.GreatestPlaces.{least-at}
use Rattle.node_semver_c.proofs.greatest.node_semver_min_satisfying.Goals as goal
use Rattle.semver_sets.specs.Meaning.{RangeAdmits}

pub returns-clause-least : goal.returns-clause-least
returns-clause-least c found =
    let versions = values c.args.versions.now in
    subst (λ sets. IsLeastAt (RangeAdmits sets) versions c.place_of_best.new.place) c.get.ensures
    (least-at (RangeAdmits c.get.result.now) versions c.place_of_best.new.place (c.place_of_best.ensures.best found))
