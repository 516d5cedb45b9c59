use Rattle.std.proofs.Common.{◌≡◌, inl, inr, subst}
use Rattle.node_semver.specs.Versions.{VersionValue}
use Rattle.npm_texts.specs.Admission.{Admits, of_dependencies}
use Rattle.npm_pick.specs.Lemmas.Readings.{one_version}
use Rattle.npm_pick.proofs.ranged.is_in_range.Goals as goal

pub returns-in-Some : goal.returns-in-Some
returns-in-Some c = (
  (λ yes. inr (
    c.in-Some.version,
    c.in-Some.ensures.found,
    (c.requires.wanted c.in-Some.version).0
        (c.satisfies.ensures.0 yes),
  )),
  (λ either. elim either [
    | inl star ↦ cc (star, c.eq.ensures, c.if-eq.false)
    | inr h ↦
        let same : h.0 ≡ c.in-Some.version =
        one_version c.args.key.now h.0 c.in-Some.version h.1 c.in-Some.ensures.found in
        c.satisfies.ensures.1 ((c.requires.wanted c.in-Some.version).1
        (subst (λ (x : VersionValue). Admits of_dependencies c.args.asked.now.range.now x) same h.2))
  ]),
)

pub returns-in-None : goal.returns-in-None
returns-in-None c = (
  (λ no. cc no),
  (λ either. elim either [
    | inl star ↦ cc (star, c.eq.ensures, c.if-eq.false)
    | inr h ↦ absurd (c.in-None.ensures.none h.0 h.1)
  ]),
)
