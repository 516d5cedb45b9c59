use Rattle.std.proofs.lemmas.Grind.{common_steps}
use Rattle.std.proofs.Common.{ℕ, ◌+◌, ◌-◌, ◌/◌, ◌<◌, length, sym, arith}
use Rattle.semver_cuts.specs.Ends.{span_between}
use Rattle.semver_cuts.specs.Lemmas.Ends.{at_most-from_le, below-from_not_le}
use Rattle.semver_cuts.proofs.Intersections.FirstAbove.{above-from, ended-before}
use Rattle.semver_cuts.proofs.algebra.merged.MergedSpans.first_above.Goals as goal

pub loop-low-preserved-then-le : goal.loop-low-preserved-then-le
loop-low-preserved-then-le g c =
    let spans = c.args.self.now.merged in
    let middle : ℕ = c.loop-low.low + (c.loop-low.high - c.loop-low.low) / 2 in
    let within : middle < length spans = omega arith in
    grind (
      arith,
      common_steps,
      ended-before g.met.T.Ord.total spans c.len-high.ensures.joined.merged c.args.cut.now
          middle (span_between c.ends.result.0.now c.ends.result.1.now) within c.ends.ensures
          (at_most-from_le g.T.Ord.cmp c.ends.result.1.now c.args.cut.now (sym c.if-le.ensures)),
      at_most-from_le
          g.T.Ord.cmp c.ends.result.1.now c.args.cut.now (sym c.if-le.ensures),
    )

pub loop-low-preserved : goal.loop-low-preserved
loop-low-preserved g c =
    let spans = c.args.self.now.merged in
    let middle : ℕ = c.loop-low.low + (c.loop-low.high - c.loop-low.low) / 2 in
    let within : middle < length spans = omega arith in
    grind (
      arith,
      common_steps,
      above-from g.met.T.Ord.total spans c.len-high.ensures.joined.merged c.args.cut.now
          middle (span_between c.ends.result.0.now c.ends.result.1.now) within c.ends.ensures
          (below-from_not_le g.met.T.Ord.total c.ends.result.1.now c.args.cut.now (sym c.if-le.ensures)),
      below-from_not_le g.met.T.Ord.total c.ends.result.1.now c.args.cut.now (sym c.if-le.ensures),
    )

pub ends-requires : goal.ends-requires
ends-requires g c = omega (arith, c.loop-low-test.true, c.loop-low.invariant.within)
