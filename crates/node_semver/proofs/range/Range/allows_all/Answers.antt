use native.Mathlib.Omega.{arith}
use Rattle.std.proofs.Common.{◌≡◌, ◌∙◌, ◌↔◌, Bool, IsTrue, List}
use Rattle.semver_cuts.specs.Ends.{Ends}
use Rattle.semver_cuts.specs.Sharing.{CoversAll}
use Rattle.semver_cuts.specs.Lemmas.Difference.{difference-covered}
use Rattle.semver_texts.specs.Comparison.{version_cmp}
use Rattle.semver_texts.specs.Version.{VersionValue}
use Rattle.semver_texts.specs.Lemmas.Public.{version_total}
use Rattle.node_semver.proofs.range.Range.allows_all.Goals as goal

covers-same : (result : Bool) (ones others list other_list : List (Ends VersionValue)) → list ≡ ones
    → other_list ≡ others → (IsTrue result ↔ CoversAll version_cmp list other_list)
    → IsTrue result ↔ CoversAll version_cmp ones others
covers-same result ones others list other_list same other_same covers = grind arith

pub returns-clause-covered : goal.returns-clause-covered
returns-clause-covered c =
    covers-same c.covers.result c.args.self.now c.args.other.now c.merged.result.list c.merged-2.result.list
    (c.merged.ensures ∙ c.self.view_is) (c.merged-2.ensures ∙ c.other.view_is) c.covers.ensures

pub returns-clause-difference : goal.returns-clause-difference
returns-clause-difference c =
    let covered = returns-clause-covered c in
    λ spans are.
    let law = difference-covered version_total c.args.other.now c.args.self.now spans are in
    (λ is. law.1 (covered.0 is), λ none. covered.1 (law.0 none))
