use Rattle.std.proofs.Common.{subst, ◌∙◌}
use Rattle.node_semver_c.specs.Greatest.{IsGreatestAt, values}
use Rattle.node_semver_c.proofs.GreatestPlaces.{greatest-at}
use Rattle.node_semver_c.proofs.greatest.node_semver_max_satisfying_with_prereleases.Goals as goal
use Rattle.semver_sets.specs.Meaning.{RangeContains}

pub returns-clause-greatest : goal.returns-clause-greatest
returns-clause-greatest c found =
    let versions = values c.args.versions.now in
    subst (λ sets. IsGreatestAt (RangeContains sets) versions c.place_of_best.new.place)
    (c.with_prereleases.ensures ∙ c.get.ensures)
    (greatest-at (RangeContains c.with_prereleases.result) versions c.place_of_best.new.place
    (c.place_of_best.ensures.best found))
