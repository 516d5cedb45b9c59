-- The first end behind those that are not after the cut is the next.
use Rattle.std.proofs.Common.{of_calls, rules}
use Rattle.std.proofs.lemmas.Fn.{always_returns_same}
use Rattle.std.specs.Ordering.{is_le}
use Rattle.semver_cuts.specs.Cut.{cut_cmp}
use Rattle.node_semver.specs.Versions.{version_cmp}
use Rattle.npm_advisories.proofs.OsvEnds.{next-found, next-none, parted-at_most}
use Rattle.npm_advisories.proofs.osv.between.next_end.Goals as goal

pub returns-then-place-ends : goal.returns-then-place-ends
returns-then-place-ends c =
    let ends = c.args.ends.now in
    let from = c.args.from.now in
    let parts = c.partition_point-place.ensures.partitioned (λ cut. is_le (cut_cmp version_cmp cut from))
    (always_returns_same _ _ _ (λ a r f k. search (rules, of_calls))) (parted-at_most ends c.requires.0 from) in
    next-found ends from c.partition_point-place.result parts c.requires.0 c.index-ends-place.result
    c.if-place-ends.true c.index-ends-place.is

pub returns-else-place-ends : goal.returns-else-place-ends
returns-else-place-ends c =
    let ends = c.args.ends.now in
    let from = c.args.from.now in
    let parts = c.partition_point-place.ensures.partitioned (λ cut. is_le (cut_cmp version_cmp cut from))
    (always_returns_same _ _ _ (λ a r f k. search (rules, of_calls))) (parted-at_most ends c.requires.0 from) in
    next-none ends from c.partition_point-place.result parts c.args.last.now c.if-place-ends.false c.requires.1
