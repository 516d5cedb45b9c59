use Rattle.std.proofs.Common.{subst}
use Rattle.std.specs.Option.{option_map}
use Rattle.node_semver.specs.Lemmas.GreatestViews.{order_of}
use Rattle.node_semver_c.specs.Private.GreatestPlaces.{IsBetterAt}
use Rattle.node_semver_c.proofs.GreatestPlaces.{taken-place}
use Rattle.node_semver_c.proofs.greatest.best_of.Goals as goal
use Rattle.semver_texts.specs.Version.{VersionValue}

pub versions-preserved : goal.versions-preserved
versions-preserved g c =
    let before = option_map (λ b. (b.0, b.1.now)) c.versions.best in
    let after = option_map (λ b. (b.0, b.1.now)) c.better-best.result in
    let wanted = g.A.Admits.admits c.args.asked.now in
    taken-place c.args.upward wanted c.args.versions.now c.versions.place c.index-versions-place.result before
    after c.versions-test.true c.index-versions-place.is c.versions.invariant
    (subst (λ (v : VersionValue). IsBetterAt (order_of c.args.upward) wanted before c.versions.place v after)
    c.get.ensures c.better-best.ensures)
