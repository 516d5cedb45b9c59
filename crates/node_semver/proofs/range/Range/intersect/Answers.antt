use native.Mathlib.Omega.{arith}
use Rattle.std.proofs.Common.{rules}
use Rattle.semver_cuts.specs.SpanLists.{IsInSome}
use Rattle.semver_cuts.specs.Lemmas.CommonSpans.{common_spans-cuts}
use Rattle.semver_cuts.specs.Lemmas.Difference.{common_difference-disjoint, common_difference-together}
use Rattle.semver_texts.specs.Lemmas.Public.{version_total}
use Rattle.semver_texts.specs.Comparison.{version_cmp}
use Rattle.node_semver.proofs.Sets.AlgebraBounds.{common-bounded, none-exactly, some-exactly}
use Rattle.node_semver.proofs.Sets.RangeAlgebra.{common-admits, common-releases}
use Rattle.node_semver.proofs.range.Range.intersect.Goals as goal

pub of_gathered-requires : goal.of_gathered-requires
of_gathered-requires c = grind (arith, common-bounded)

pub returns-clause-sets : goal.returns-clause-sets
returns-clause-sets c = search rules

pub returns-clause-cuts : goal.returns-clause-cuts
returns-clause-cuts c =
    λ cut. rw (returns-clause-sets c) (common_spans-cuts version_total c.args.self.now c.args.other.now cut)

pub returns-clause-none : goal.returns-clause-none
returns-clause-none c =
    let none = none-exactly c.in_ok-of_gathered.field-0
    (λ cut. IsInSome version_cmp c.args.self.now cut × IsInSome version_cmp c.args.other.now cut)
    c.in_ok-of_gathered.ensures.holds (returns-clause-cuts c) in (
      λ is shared. none.0 is shared.0 (shared.1, shared.2),
      λ apart. none.1 (λ cut both. apart (cut, both.0, both.1)),
    )

pub returns-clause-some : goal.returns-clause-some
returns-clause-some c =
    let some = some-exactly c.in_ok-of_gathered.field-0
    (λ cut. IsInSome version_cmp c.args.self.now cut × IsInSome version_cmp c.args.other.now cut)
    c.in_ok-of_gathered.ensures.holds (returns-clause-cuts c) in (
      λ is. let found = some.0 is in (found.0, found.1.0, found.1.1),
      λ shared. some.1 (shared.0, (shared.1, shared.2)),
    )

pub returns-clause-releases : goal.returns-clause-releases
returns-clause-releases c =
    λ v release.
    rw (returns-clause-sets c) (common-releases c.args.self.now c.args.other.now v release)

pub returns-clause-prereleases : goal.returns-clause-prereleases
returns-clause-prereleases c = grind (arith, returns-clause-sets, common-admits)

pub returns-clause-disjoint : goal.returns-clause-disjoint
returns-clause-disjoint c = grind (arith, returns-clause-sets, common_difference-disjoint, version_total)

pub returns-clause-together : goal.returns-clause-together
returns-clause-together c =
    λ spans are cut.
    let either = common_difference-together version_total c.args.self.now c.args.other.now spans are cut in
    rw (returns-clause-sets c) (either.1, either.0)
