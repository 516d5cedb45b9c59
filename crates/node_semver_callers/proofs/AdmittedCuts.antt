-- What is admitted, by the cut before the version.
use Rattle.std.proofs.Common.{◌≡◌, ◌≢◌, ◌↔◌, ℕ, List, [], ◌∷◌, Option, inl, inr}
use Rattle.semver_cuts.specs.declared.cut.Cut.TheVariants.{Before}
use Rattle.semver_cuts.specs.SpanLists.{IsInEvery, IsInSome}
use Rattle.semver_cuts.specs.Ends.{Ends}
use Rattle.semver_cuts.specs.Lemmas.Lists.{any-map}
use Rattle.node_semver.specs.Ranges.{Comparator}
use Rattle.node_semver.specs.Versions.{version_cmp}
use Rattle.node_semver.specs.Ranges.{Admit, RangeAdmits, TextAdmits}
use Rattle.node_semver.specs.Versions.{IsPrerelease, VersionValue}
use Rattle.node_semver.specs.RangeAlgebra.{sets_of_answer}
use Rattle.node_semver.specs.SetTree.{Formula, InFormula, TextHasCut, both, of_text, without}

-- what a range admits lies in one of its sets
pub admitted-inside : (sets : List (Ends VersionValue)) (v : VersionValue) → RangeAdmits sets v
    → IsInSome version_cmp sets (Before v)
admitted-inside [] v admits = admits
admitted-inside (set ∷ sets) v (inl admits) = inl admits.inside
admitted-inside (set ∷ sets) v (inr admits) = inr (admitted-inside sets v admits)

-- an alternative that is not empty, in which the cut before a version lies, and one that admits the version
abbrev HasInside : VersionValue → List Comparator → Type 0
HasInside v comparators = (comparators ≢ []) × IsInEvery version_cmp comparators (Before v)

abbrev IsAdmitting : VersionValue → List Comparator → Type 0
IsAdmitting v comparators = (comparators ≢ []) × Admit comparators v

-- a text admits a release exactly where it has the cut before it
pub release-cut : (text : List ℕ) (v : VersionValue) → ¬ IsPrerelease v → TextHasCut text (Before v) ↔ TextAdmits text v
release-cut text v release = (
  λ has. record {
    alternatives = has.alternatives;
    written = has.written;
    admitted = any-map (HasInside v) (IsAdmitting v)
        (λ comparators here. (here.0, record { inside = here.1; opened = λ pre. absurd (release pre) }))
        has.alternatives has.common;
  },
  λ admits. record {
    alternatives = admits.alternatives;
    written = admits.written;
    common = any-map (IsAdmitting v) (HasInside v) (λ comparators here. (here.0, here.1.inside))
        admits.alternatives admits.admitted;
  },
)

-- what two texts have and a third has not, at the cut before a release
pub tree-cut : (one other advisory : List ℕ) (sides left right last : Formula) → sides ≡ both left right
    → left ≡ of_text one → right ≡ of_text other → last ≡ of_text advisory → (v : VersionValue) → ¬ IsPrerelease v
    → InFormula (without sides last) (Before v)
    ↔ ((TextAdmits one v × TextAdmits other v) × ¬ TextAdmits advisory v)
tree-cut one other advisory sides left right last s l r a v release =
    let ones = release-cut one v release in
    let others = release-cut other v release in
    let hit = release-cut advisory v release in
    rw (s, l, r, a) (
      λ inside. ((ones.0 inside.0.0, others.0 inside.0.1), λ admits. inside.1 (hit.1 admits)),
      λ admits. ((ones.1 admits.0.0, others.1 admits.0.1), λ inside. admits.1 (hit.0 inside)),
    )

-- a result admits exactly the releases with the property P
abbrev pub AdmitsReleases : (VersionValue → Type 0) → Option (List (Ends VersionValue)) → Type 0
AdmitsReleases P answer = (v : VersionValue) → ¬ IsPrerelease v → RangeAdmits (sets_of_answer answer) v ↔ P v

-- and so those of which something holds that says the same of releases
pub admits_releases-same : (P Q : VersionValue → Type 0) → ((v : VersionValue) → ¬ IsPrerelease v → P v ↔ Q v)
    → (answer : Option (List (Ends VersionValue))) → AdmitsReleases P answer → AdmitsReleases Q answer
admits_releases-same P Q same answer admits v release =
    let this = admits v release in
    let that = same v release in
    (λ yes. that.0 (this.0 yes), λ holds. this.1 (that.1 holds))
