use Rattle.std.proofs.Common.{List, arith, refl, subst}
use Rattle.std.proofs.lemmas.List.{take_all}
use Rattle.semver_cuts.specs.Places.{span_at}
use Rattle.semver_sets.specs.Meaning.{AnyByRecursion, IsInside}
use Rattle.semver_sets.specs.declared.set_list.opened.Opening.{Opening}
use Rattle.semver_sets.proofs.Sets.Openings.{opening-inside, opening-outside}
use Rattle.semver_sets.proofs.set_list.indexed.is_in_opened.Goals as goal

pub returns-then-has_inside-clause-inside : goal.returns-then-has_inside-clause-inside
returns-then-has_inside-clause-inside g c = (
  λ h. opening-inside (g.V.AsVersion.seen c.args.version.now) c.args.sets.now c.args.openings.now
      c.openings.opening-index _ _ _
      c.openings-test.true c.requires c.index-sets-opening.is (c.has_inside.ensures.inside.0 c.if-has_inside.true),
  λ some. refl,
)

pub openings-preserved : goal.openings-preserved
openings-preserved g c = record {
  none = opening-outside (g.V.AsVersion.seen c.args.version.now) c.args.sets.now c.args.openings.now
      c.openings.opening-index _ _ _
      c.openings-test.true c.requires c.index-sets-opening.is c.openings.invariant.none
      (λ inside. cc (c.if-has_inside.false, c.has_inside.ensures.inside.1 inside));
  adds = omega arith;
  short = omega arith;
}

pub returns-clause-inside : goal.returns-clause-inside
returns-clause-inside g c =
    let whole = take_all c.openings.opening-index c.args.openings.now c.openings-test.false in
    let none = subst (λ (l : List Opening). ¬ AnyByRecursion
    (λ o. IsInside (g.V.AsVersion.seen c.args.version.now) (span_at c.args.sets.now o.place)) l) whole
    c.openings.invariant.none in
    (λ h. absurd (cc h), λ some. absurd (none some))
