-- The cuts of the union are those of its ranges.
use Rattle.std.proofs.Common.{IsNone, rules, subst}
use Rattle.node_semver_callers.proofs.UnionHits.{cuts-some}
use Rattle.node_semver_callers.proofs.spared.is_covered.Goals as goal

pub returns-in-Some : goal.returns-in-Some
returns-in-Some c =
    let cuts = cuts-some c.args.advisory.now _ c.in-Some.hit c.in-Some.is c.in_ok-hit.ensures.cuts in
    let covered = c.allows_all.ensures.covered in (
      λ yes. (
        λ empty. let none = subst IsNone c.in-Some.is (c.in_ok-hit.ensures.none.1 empty) in absurd (search rules),
        λ cut inside. (cuts cut).0 (covered.0 yes cut inside),
      ),
      λ all. covered.1 (λ cut inside. (cuts cut).1 (all.1 cut inside)),
    )
