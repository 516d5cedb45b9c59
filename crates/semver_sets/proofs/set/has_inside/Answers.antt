use Rattle.std.proofs.Common.{◌↔◌, IsTrue, subst}
use Rattle.semver_cuts.specs.declared.cut.Cut.{Cut}
use Rattle.semver_cuts.specs.declared.cut.Cut.TheVariants.{Before}
use Rattle.semver_cuts.specs.Ends.{IsCutAtMost}
use Rattle.semver_texts.specs.Comparison.{version_cmp}
use Rattle.semver_texts.specs.Lemmas.Public.{version_total}
use Rattle.semver_texts.specs.Version.{VersionValue}
use Rattle.semver_sets.proofs.Sets.Searching.{in_span}
use Rattle.semver_sets.proofs.set.has_inside.Goals as goal

pub returns-then-is_at_or_before-clause-inside : goal.returns-then-is_at_or_before-clause-inside
returns-then-is_at_or_before-clause-inside g c =
    let begins = c.is_at_or_before.result in
    let ends = c.is_at_or_before-then-is_at_or_before.result in
    in_span version_total (Before (g.V.AsVersion.seen c.args.version.now)) begins ends c.args.set.now
    c.if-is_at_or_before.true
    (subst (λ (cut : Cut VersionValue). IsTrue begins ↔ IsCutAtMost version_cmp cut
    (Before (g.V.AsVersion.seen c.args.version.now)))
    c.lower.ensures c.is_at_or_before.ensures.order)
    (subst (λ (cut : Cut VersionValue). IsTrue ends ↔ IsCutAtMost version_cmp cut
    (Before (g.V.AsVersion.seen c.args.version.now)))
    c.upper.ensures c.is_at_or_before-then-is_at_or_before.ensures.order)
