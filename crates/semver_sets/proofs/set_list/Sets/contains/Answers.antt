use Rattle.std.proofs.Common.{◌≡◌, List, [], ◌∷◌, ap, subst, sym}
use Rattle.semver_cuts.specs.Ends.{Ends}
use Rattle.semver_sets.specs.RangeSets.{sets_seen}
use Rattle.semver_sets.specs.Searching.{IsShortSearchInside}
use Rattle.semver_texts.specs.Version.{VersionValue}
use Rattle.semver_sets.proofs.Sets.Inside.{only-short-inside}
use Rattle.semver_sets.proofs.set_list.Sets.contains.Goals as goal

pub returns-in-One-clause-short : goal.returns-in-One-clause-short
returns-in-One-clause-short g c =
    let v = g.V.AsVersion.seen c.args.version.now in
    let one : sets_seen c.args.self.now ≡ c.in-One.set ∷ [] = ap sets_seen c.in-One.is in
    let count = g.C.Counts.count in
    subst (λ (l : List (Ends VersionValue)). IsShortSearchInside l v (count c.args.comparisons.now)
    (count c.has_inside.new.comparisons)) (sym one)
    (only-short-inside c.in-One.set v (count c.args.comparisons.now) (count c.has_inside.new.comparisons)
    c.has_inside.ensures.adds c.has_inside.ensures.short
    (λ is. c.has_inside.ensures.admitted (c.has_inside.ensures.inside.1 is)))
