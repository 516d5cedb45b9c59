use Rattle.std.proofs.Common.{◌≡◌, List, [], ◌∷◌, ap, subst, sym}
use Rattle.semver_cuts.specs.Ends.{Ends}
use Rattle.semver_sets.specs.RangeSets.{sets_seen}
use Rattle.semver_sets.specs.Searching.{IsShortSearch}
use Rattle.semver_texts.specs.Version.{VersionValue}
use Rattle.semver_sets.proofs.Sets.Openings.{only-short}
use Rattle.semver_sets.proofs.set_list.Sets.admits.Goals as goal

pub returns-in-One-clause-short : goal.returns-in-One-clause-short
returns-in-One-clause-short g c =
    let v = g.V.AsVersion.seen c.args.version.now in
    let one : sets_seen c.args.self.now ≡ c.in-One.set ∷ [] = ap sets_seen c.in-One.is in
    let count = g.C.Counts.count in
    subst (λ (l : List (Ends VersionValue)). IsShortSearch l v (count c.args.comparisons.now)
    (count c.admits.new.comparisons)) (sym one)
    (only-short c.in-One.set v (count c.args.comparisons.now) (count c.admits.new.comparisons) c.admits.ensures.adds
    c.admits.ensures.short c.admits.ensures.unopened
    (λ is. c.admits.ensures.admitted (c.admits.ensures.answer.1 is)))
