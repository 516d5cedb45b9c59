use Rattle.std.proofs.Common.{◌≡◌, subst}
use Rattle.node_semver.specs.RangeAlgebra.{sets_of_answer}
use Rattle.node_semver.specs.Ranges.{RangeContains}
use Rattle.node_semver.specs.Versions.{VersionValue}
use Rattle.npm_pick.specs.Lemmas.Readings.{one_version}
use Rattle.npm_pick.proofs.ranged.is_key_avoided.Goals as goal

pub returns-in-Some : goal.returns-in-Some
returns-in-Some c = (
  (λ yes. (c.in-Some.version, c.in-Some.ensures.found, c.is_in.ensures.0 yes)),
  (λ h.
      let same : h.0 ≡ c.in-Some.version =
      one_version c.args.key.now h.0 c.in-Some.version h.1 c.in-Some.ensures.found in
      c.is_in.ensures.1
      (subst (λ (x : VersionValue). RangeContains (sets_of_answer c.args.avoid.now) x) same h.2)),
)

pub returns-in-None : goal.returns-in-None
returns-in-None c = ((λ no. cc no), (λ h. absurd (c.in-None.ensures.none h.0 h.1)))
