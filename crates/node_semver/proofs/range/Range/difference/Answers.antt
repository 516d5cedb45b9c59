use native.Mathlib.Omega.{arith}
use Rattle.std.proofs.Common.{rules}
use Rattle.semver_cuts.specs.SpanLists.{IsInSome}
use Rattle.semver_cuts.specs.Lemmas.Difference.{common_difference-disjoint, common_difference-together}
use Rattle.semver_cuts.specs.Lemmas.Difference.{difference-covered, difference-cuts}
use Rattle.semver_texts.specs.Comparison.{version_cmp}
use Rattle.semver_texts.specs.Lemmas.Public.{version_total}
use Rattle.node_semver.proofs.Sets.AlgebraBounds.{difference-bounded, none-exactly, none-listed}
use Rattle.node_semver.proofs.Sets.RangeAlgebra.{difference-releases}
use Rattle.node_semver.proofs.range.Range.difference.Goals as goal

pub of_gathered-requires : goal.of_gathered-requires
of_gathered-requires c = grind (arith, difference-bounded)

pub returns-clause-sets : goal.returns-clause-sets
returns-clause-sets c = search rules

pub returns-clause-cuts : goal.returns-clause-cuts
returns-clause-cuts c =
    difference-cuts version_cmp _ _ _ (returns-clause-sets c)

pub returns-clause-none : goal.returns-clause-none
returns-clause-none c =
    none-exactly c.in_ok-of_gathered.field-0
    (λ cut. IsInSome version_cmp c.args.self.now cut × (¬ IsInSome version_cmp c.args.other.now cut))
    c.in_ok-of_gathered.ensures.holds (returns-clause-cuts c)

pub returns-clause-releases : goal.returns-clause-releases
returns-clause-releases c =
    difference-releases _ _ _ (returns-clause-sets c)

pub returns-clause-disjoint : goal.returns-clause-disjoint
returns-clause-disjoint c = grind (arith, common_difference-disjoint, version_total, returns-clause-sets)

pub returns-clause-together : goal.returns-clause-together
returns-clause-together c =
    λ cut.
    let either = common_difference-together version_total _ _ _ (returns-clause-sets c) cut in (either.1, either.0)

pub returns-clause-covered : goal.returns-clause-covered
returns-clause-covered c =
    let law = difference-covered version_total _ _ _ (returns-clause-sets c) in
    let none = none-listed c.in_ok-of_gathered.field-0 c.in_ok-of_gathered.ensures.holds in
    (λ is. law.0 (none.0 is), λ covers. none.1 (law.1 covers))
