use Rattle.std.proofs.Common.{◌++◌, ap, sym, ◌∙◌}
use Rattle.semver_cuts.specs.Lemmas.Ends.{at_most-from_le}
use Rattle.semver_cuts.proofs.Intersections.AscendingSpans.{common_with-until}
use Rattle.semver_cuts.proofs.algebra.common.common_until.Goals as goal

pub returns-then-le : goal.returns-then-le
returns-then-le g c =
    let one = c.args.one.now in
    let other = c.other-item.result in
    c.loop-other.invariant ∙ ap (λ spans. g.S.Gather.gathered c.args.into.now ++ spans)
    (common_with-until g.met.T.Ord.total one c.args.others.now c.loop-other.other-index other c.loop-other-test.true
    c.other-item.is c.requires (at_most-from_le g.T.Ord.cmp one.upper other.lower
    (rw (← c.upper.ensures) (rw (← c.lower.ensures) (sym c.le.ensures ∙ c.if-le.true)))))
