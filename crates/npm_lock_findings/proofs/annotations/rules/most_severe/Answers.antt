-- With one hit more.
use Rattle.std.proofs.Common.{◌≡◌, ◌≤◌, ◌<◌, ◌⊎◌, ◌∙◌, List, ℕ, arith, get_or, inl, inr, length, subst, sym, take}
use Rattle.std.specs.List.{All, Contains}
use Rattle.std.proofs.lemmas.List.{take_all}
use Rattle.std.proofs.lemmas.List.Elements.{All-more, All-weaker}
use Rattle.npm_advisories.specs.Severities.{rank}
use Rattle.npm_advisories.specs.declared.advisory.About.{About}
use Rattle.npm_advisories.specs.declared.severity.Severity.{Severity}
use Rattle.npm_advisories.specs.declared.severity.Severity.TheVariants.{Unknown}
use Rattle.npm_lock_findings.proofs.annotations.rules.most_severe.Goals as goal

-- it is that of a hit, or none is known
abbrev IsOfOne : List About → Severity → Type 0
IsOfOne hits most = (most ≡ Unknown) ⊎ ((about : About) × Contains hits about × (about.severity ≡ most))

of_more : (hits : List About) (i : ℕ) (about : About) (most more : Severity) → i < length hits → about ≡ get_or hits i about
    → (more ≡ most) ⊎ (more ≡ about.severity) → IsOfOne hits most → IsOfOne hits more
of_more hits i about most more lt at (inl same) (inl unknown) = inl (same ∙ unknown)
of_more hits i about most more lt at (inl same) (inr one) = inr (one.0, one.1, one.2 ∙ sym same)
of_more hits i about most more lt at (inr is) held = inr (about, (i, lt, sym at), sym is)

pub loop-about-preserved : goal.loop-about-preserved
loop-about-preserved c =
    let more = c.more_severe-most.result in
    let is_below = λ (about : About). rank about.severity ≤ rank more in
    let before : All is_below (take c.loop-about.about-index c.args.hits.now) =
    All-weaker (λ (about : About). rank about.severity ≤ rank c.loop-about.most) is_below
    (λ about below. omega (arith, below, c.more_severe-most.ensures.left)) (take c.loop-about.about-index c.args.hits.now)
    c.loop-about.invariant.0 in (
      All-more is_below c.args.hits.now c.loop-about.about-index c.about-item.result c.loop-about-test.true before
          (subst is_below c.about-item.is c.more_severe-most.ensures.right),
      of_more c.args.hits.now c.loop-about.about-index c.about-item.result c.loop-about.most more c.loop-about-test.true c.about-item.is
          c.more_severe-most.ensures.is c.loop-about.invariant.1,
    )

pub returns : goal.returns
returns c = record {
  least = subst (All (λ (about : About). rank about.severity ≤ rank c.loop-about.most))
      (take_all c.loop-about.about-index c.args.hits.now c.loop-about-test.false) c.loop-about.invariant.0;
  of_one = c.loop-about.invariant.1;
}
