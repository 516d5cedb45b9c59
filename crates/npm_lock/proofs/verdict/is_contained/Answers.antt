use Rattle.std.proofs.Common.{ℕ, List}
use Rattle.node_semver.specs.Versions.{VersionValue}
use Rattle.npm_texts.specs.Admission.{Admits, IsNoRange, of_engines}
use Rattle.npm_lock.proofs.verdict.is_contained.Goals as goal

no_range : (text : List ℕ) (v : VersionValue) → IsNoRange of_engines text → ¬ Admits of_engines text v
no_range text v none admits = rw none at admits

pub returns-in-Some : goal.returns-in-Some
returns-in-Some c =
    let means = rw c.in-Some.is at c.in_ok-range.ensures.means in
    let told = c.contains.ensures in (
      (λ yes. (means c.args.version.now).0 (told.0 yes)),
      (λ admits. told.1 ((means c.args.version.now).1 admits)),
    )

pub returns-in-None : goal.returns-in-None
returns-in-None c = (
  (λ no. cc no),
  (λ admits. absurd (no_range _ _ (rw c.in-None.is at c.in_ok-range.ensures.refused) admits)),
)
