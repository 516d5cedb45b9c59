use Rattle.std.proofs.Common.{◌↔◌, IsTrue, List, subst}
use Rattle.semver_cuts.specs.Ends.{Ends}
use Rattle.semver_cuts.specs.Sharing.{CoversAll}
use Rattle.semver_texts.specs.Comparison.{version_cmp}
use Rattle.semver_texts.specs.Version.{VersionValue}
use Rattle.node_semver_c.proofs.range.node_semver_range_allows_all.Goals as goal

pub returns : goal.returns
returns c =
    let Covers : List (Ends VersionValue) → List (Ends VersionValue) → Type 0 =
    λ ones others. IsTrue c.allows_all.result ↔ CoversAll version_cmp ones others in
    subst (λ (ones : List (Ends VersionValue)). Covers ones c.args.other.now.value) c.get.ensures
    (subst (λ (others : List (Ends VersionValue)). Covers c.get.result.now others) c.get-2.ensures
    c.allows_all.ensures.covered)
