-- A range to avoid that was read.
use Rattle.std.proofs.Common.{◌≡◌, ◌↔◌, ℕ, List, Option, Some, None, Result, Ok, Err, IfNone, IfOk, IfSome, true}
use Rattle.semver_cuts.specs.Ends.{Ends}
use Rattle.node_semver.specs.Versions.{VersionValue}
use Rattle.npm_semver.specs.NpmRanges.{NpmSetsAdmit}
use Rattle.npm_texts.specs.Admission.{Admits, IsNoRange}
use Rattle.npm_pick.specs.Lemmas.Readings.{no_range}
use Rattle.npm_pick.specs.Rank.{of_avoided}
use Rattle.npm_pick.specs.Ranking.{IsAvoidRead}

read_avoid : (text : List ℕ) (range : Option (List (Ends VersionValue)))
    → IfNone range (IsNoRange of_avoided text)
    → IfSome range (λ r. (v : VersionValue) → NpmSetsAdmit true r v ↔ Admits of_avoided text v)
    → IsAvoidRead (Some text) range
read_avoid text None none means = λ v. (
  (λ inside. absurd inside),
  (λ admits. absurd (no_range of_avoided text v none admits)),
)
read_avoid text (Some r) none means = means

pub read_answer : {E : Type 0} (text : List ℕ) (r : Result (Option (List (Ends VersionValue))) E)
    → IfOk r (λ range. IfNone range (IsNoRange of_avoided text))
    → IfOk r (λ range. IfSome range (λ r. (v : VersionValue) → NpmSetsAdmit true r v ↔ Admits of_avoided text v))
    → IfOk r (IsAvoidRead (Some text))
read_answer text (Ok range) none means = read_avoid text range none means
read_answer text (Err e) none means = tt
