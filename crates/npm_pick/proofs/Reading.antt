-- A range that was read.
use Rattle.std.proofs.Common.{◌≡◌, ◌↔◌, ℕ, List, Option, Some, None, Result, Ok, Err, IfNone, IfOk, IfSome, false, true}
use Rattle.semver_cuts.specs.Ends.{Ends}
use Rattle.node_semver.specs.Versions.{VersionValue}
use Rattle.npm_semver.specs.NpmRanges.{NpmSetsAdmit}
use Rattle.npm_texts.specs.RangeText.{is_plain}
use Rattle.npm_texts.specs.Admission.{Admits, IsNoRange, of_dependencies}
use Rattle.npm_pick.specs.Lemmas.Readings.{no_range}
use Rattle.npm_pick.specs.Kept.{IsInText}
use Rattle.npm_pick.specs.Private.Keeping.{IsSatisfied}

read_range : (text : List ℕ) (range : Option (List (Ends VersionValue)))
    → IfNone range (IsNoRange of_dependencies text)
    → IfSome range (λ r. (v : VersionValue) → NpmSetsAdmit false r v ↔ Admits of_dependencies text v)
    → (v : VersionValue) → IsSatisfied range v ↔ Admits of_dependencies text v
read_range text None none means v = (
  (λ inside. absurd inside),
  (λ admits. absurd (no_range of_dependencies text v none admits)),
)
read_range text (Some r) none means v = means v

pub read_wanted : {E : Type 0} (text : List ℕ) (r : Result (Option (List (Ends VersionValue))) E)
    → IfOk r (λ range. IfNone range (IsNoRange of_dependencies text))
    → IfOk r (λ range. IfSome range (λ r. (v : VersionValue)
    → NpmSetsAdmit false r v ↔ Admits of_dependencies text v))
    → IfOk r (λ range. (v : VersionValue) → IsSatisfied range v ↔ Admits of_dependencies text v)
read_wanted text (Ok range) none means = read_range text range none means
read_wanted text (Err e) none means = tt

pub read_plain : {E : Type 0} (text : List ℕ) (r : Result (Option (List (Ends VersionValue))) E) → is_plain text ≡ true
    → IfOk r (λ range. (v : VersionValue) → IsSatisfied range v ↔ Admits of_dependencies text v)
    → IfOk r (λ range. (v : VersionValue) → IsSatisfied range v ↔ IsInText text v)
read_plain text (Ok range) plain read = λ v. ((λ inside. (plain, (read v).0 inside)), (λ within. (read v).1 within.1))
read_plain text (Err e) plain read = tt
