use Rattle.std.proofs.Common.{◌≡◌, ℕ, ◌+◌, ◌-◌, ◌/◌, ◌<◌, drop, take, length, sym, ap, subst, arith}
use Rattle.std.specs.Prelude.{not}
use Rattle.std.specs.List.{AllByRecursion}
use Rattle.std.proofs.lemmas.List.{drop_all}
use Rattle.semver_cuts.specs.declared.cut.Cut.TheVariants.{Before}
use Rattle.semver_cuts.specs.Ends.{IsCutAtMost, IsCutBelow, span_between}
use Rattle.semver_texts.specs.Comparison.{version_cmp}
use Rattle.semver_texts.specs.Lemmas.Public.{version_total}
use Rattle.semver_sets.proofs.Sets.Searching.{IsLeft, begun_above, begun_below, begun_last, last_begun, left-first}
use Rattle.semver_sets.proofs.Sets.Searching.{left-step, none-begun, not-begun}
use Rattle.semver_sets.proofs.set_list.indexed.is_in_some.Goals as goal

pub loop-low-init : goal.loop-low-init
loop-low-init g c = grind (arith, drop_all, left-first)

pub loop-low-preserved-then-is_at_or_before : goal.loop-low-preserved-then-is_at_or_before
loop-low-preserved-then-is_at_or_before g c =
    let spans = c.args.spans.now.merged in
    let low = c.loop-low.low in
    let high = c.loop-low.high in
    let middle : ℕ = low + (high - low) / 2 in
    let span = span_between c.ends.result.0.now c.ends.result.1.now in
    let within : middle < length spans = omega arith in
    record {
      ordered = omega arith;
      within = omega arith;
      below = begun_below version_total (Before
          (g.V.AsVersion.seen c.args.version.now)) spans c.len-high.ensures.joined.merged middle span within
          c.ends.ensures (c.is_at_or_before.ensures.order.0 c.if-is_at_or_before.true);
      above = c.loop-low.invariant.above;
      steps = λ digits fits.
          subst (λ n. IsLeft (g.C.Counts.count c.args.comparisons.now) n digits (high - (middle + 1)))
          (sym c.is_at_or_before.ensures.counted)
          (left-step (g.C.Counts.count c.args.comparisons.now) (g.C.Counts.count c.loop-low.comparisons) digits
          (high - low)
          (high - (middle + 1))
          (omega arith)
          (omega arith) (c.loop-low.invariant.steps digits fits));
      adds = omega arith;
      begun = λ _. omega arith;
    }

pub loop-low-preserved : goal.loop-low-preserved
loop-low-preserved g c =
    let spans = c.args.spans.now.merged in
    let low = c.loop-low.low in
    let high = c.loop-low.high in
    let middle : ℕ = low + (high - low) / 2 in
    let span = span_between c.ends.result.0.now c.ends.result.1.now in
    let within : middle < length spans = omega arith in
    record {
      ordered = omega arith;
      within = omega arith;
      below = c.loop-low.invariant.below;
      above = begun_above version_total (Before
          (g.V.AsVersion.seen c.args.version.now)) spans c.len-high.ensures.joined.merged middle span within
          c.ends.ensures
          ((not-begun version_total (Before (g.V.AsVersion.seen c.args.version.now)) c.is_at_or_before.result
          span.lower c.is_at_or_before.ensures.order).0
          (ap not c.if-is_at_or_before.false));
      steps = λ digits fits.
          subst (λ n. IsLeft (g.C.Counts.count c.args.comparisons.now) n digits (middle - low))
          (sym c.is_at_or_before.ensures.counted)
          (left-step (g.C.Counts.count c.args.comparisons.now) (g.C.Counts.count c.loop-low.comparisons) digits
          (high - low)
          (middle - low) (omega arith)
          (omega arith) (c.loop-low.invariant.steps digits fits));
      adds = omega arith;
      begun = λ _. omega arith;
    }

pub returns-then-low-eq0-clause-inside : goal.returns-then-low-eq0-clause-inside
returns-then-low-eq0-clause-inside g c =
    let spans = c.args.spans.now.merged in
    let cut = Before (g.V.AsVersion.seen c.args.version.now) in
    let all : c.loop-low.high ≡ 0 = omega arith in
    let above = subst (λ k. AllByRecursion (λ s. IsCutBelow version_cmp
    (Before (g.V.AsVersion.seen c.args.version.now)) s.lower) (drop k spans)) all
    c.loop-low.invariant.above in (
      λ h. absurd (cc h),
      λ is. absurd (none-begun version_total cut spans above ((c.len-high.ensures.joined.cuts cut).1 is)),
    )

pub returns-clause-inside : goal.returns-clause-inside
returns-clause-inside g c =
    let spans = c.args.spans.now.merged in
    let cut = Before (g.V.AsVersion.seen c.args.version.now) in
    let place : ℕ = c.loop-low.low - 1 in
    let span = span_between c.ends-2.result.0.now c.ends-2.result.1.now in
    let some : 0 < c.loop-low.low = grind (arith, c.if-low-eq0.false) in
    let within : place < length spans = omega arith in
    let next : c.loop-low.low ≡ place + 1 = omega arith in
    let end : c.loop-low.high ≡ place + 1 = omega arith in
    let begun = begun_last version_total cut spans c.len-high.ensures.joined.merged place span within c.ends-2.ensures
    (subst (λ k. AllByRecursion (λ s. IsCutAtMost version_cmp s.lower (Before (g.V.AsVersion.seen c.args.version.now)))
    (take k spans)) next
    c.loop-low.invariant.below) in
    let above = subst (λ k. AllByRecursion (λ s. IsCutBelow version_cmp
    (Before (g.V.AsVersion.seen c.args.version.now)) s.lower) (drop k spans)) end
    c.loop-low.invariant.above in
    let inside = last_begun version_total cut spans c.len-high.ensures.joined.merged place span within
    c.ends-2.ensures begun above in
    let not_begun = not-begun version_total cut c.is_at_or_before-2.result span.upper
    c.is_at_or_before-2.ensures.order in
    let cuts = c.len-high.ensures.joined.cuts cut in
    (λ h. cuts.0 (inside.1 (not_begun.0 h)), λ is. not_begun.1 (inside.0 (cuts.1 is)))
