use Rattle.std.proofs.lemmas.Grind.{common_steps}
use native.Mathlib.Omega.{arith}
use Rattle.std.proofs.Common.{ap, subst, take, ◌∙◌, ◌++◌}
use Rattle.std.proofs.lemmas.List.{take_rest}
use Rattle.std.specs.List.{AllByRecursion}
use Rattle.semver_cuts.specs.CommonSpans.{common_with}
use Rattle.semver_cuts.specs.Ends.{IsCutAtMost}
use Rattle.semver_cuts.specs.Lemmas.Apart.{merged-drop}
use Rattle.semver_cuts.proofs.Intersections.AscendingSpans.{common_with-from}
use Rattle.semver_cuts.proofs.algebra.common.common_along.Goals as goal

pub common_until-requires : goal.common_until-requires
common_until-requires g c κs = grind (arith, common_steps, take_rest, merged-drop g.T.Ord.cmp)

pub returns : goal.returns
returns g c =
    let one = c.args.one.now in
    let others = c.args.others.now in
    let first = c.first_near-first.result in
    c.in_ok-common_until.ensures ∙ ap (λ spans. g.S.Gather.gathered c.args.into.now ++ spans)
    (ap (common_with g.T.Ord.cmp one) (take_rest others first)
    ∙ common_with-from g.met.T.Ord.total one others first
    (subst (λ cut. AllByRecursion (λ s. IsCutAtMost g.T.Ord.cmp s.upper cut) (take first others)) c.lower.ensures
    c.first_near-first.ensures.below))
