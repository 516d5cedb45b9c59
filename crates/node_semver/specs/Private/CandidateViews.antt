-- What the private functions compute that look for the least version of two ranges that is wanted: one that the first
-- has and the second does not, or one that both have. A range has the versions that it admits or, with prereleases
-- included, those that it contains.
use Rattle.std.specs.Prelude.{◌≡◌, ◌+◌, ℕ, Bool, true, false, List, [], ◌∷◌, Option, Some, None}
use Rattle.std.specs.List.{AllByRecursion}
use Rattle.std.specs.declared.cmp.Ordering.TheVariants.{Less}
use Rattle.semver_cuts.specs.declared.cut.Cut.{Cut}
use Rattle.semver_cuts.specs.declared.cut.Cut.TheVariants.{Start, Before, After, End}
use Rattle.semver_cuts.specs.Ends.{Ends, IsCutBelow}
use Rattle.semver_texts.specs.Comparison.{version_cmp}
use Rattle.semver_texts.specs.IdentifierValue.{IdentifierValue}
use Rattle.semver_sets.specs.Meaning.{Opens, SetAdmits}
use Rattle.semver_texts.specs.Version.{VersionValue, least_of, release, without_build}
use Rattle.node_semver.specs.Least.{IsBeyond, IsInBoth, IsLeastOf, IsNoneOf}
use Rattle.node_semver.specs.Private.LeastViews.{IsInRange}
use Rattle.semver_versions.specs.VersionSteps.{with_zero}

-- ---- questions

-- the versions that the one list of sets has and the other has not
abbrev pub AreWantedBeyond : Bool → List (Ends VersionValue) → List (Ends VersionValue) → VersionValue → Type 0
AreWantedBeyond included sets others = IsBeyond (IsInRange included sets) (IsInRange included others)

-- the versions that both lists of sets have
abbrev pub AreWantedOfBoth : Bool → List (Ends VersionValue) → List (Ends VersionValue) → VersionValue → Type 0
AreWantedOfBoth included sets others = IsInBoth (IsInRange included sets) (IsInRange included others)

-- ---- candidates

-- at the cut before a prerelease: that prerelease and the release of its triple; before a release: that release
abbrev pub before_by : VersionValue → List IdentifierValue → List VersionValue
before_by v [] = release v.major v.minor v.patch ∷ []
before_by v (identifier ∷ identifiers) = without_build v ∷ release v.major v.minor v.patch ∷ []

-- the release of a triple or, with prereleases included, its least version
abbrev pub first_of : Bool → ℕ → ℕ → ℕ → VersionValue
first_of true = least_of
first_of false = release

-- at the cut after a prerelease: the next prerelease and the release of its triple; after a release: the first of the
-- next triple
abbrev pub after_by : Bool → VersionValue → List IdentifierValue → List VersionValue
after_by included v [] = first_of included v.major v.minor (v.patch + 1) ∷ []
after_by included v (identifier ∷ identifiers) = with_zero v ∷ release v.major v.minor v.patch ∷ []

-- the versions above a cut that can be the least: the next version, and the next release
abbrev pub candidates_at : Bool → Cut VersionValue → List VersionValue
candidates_at included Start = first_of included 0 0 0 ∷ []
candidates_at included (Before v) = before_by v v.pre_release
candidates_at included (After v) = after_by included v v.pre_release
candidates_at included End = []

-- ---- the candidates that were tried

-- there is a best version so far, and this one is not less than it
abbrev pub IsNotBelow : Option VersionValue → VersionValue → Type 0
IsNotBelow None v = ⊥
IsNotBelow (Some best) v = ¬ (version_cmp v best ≡ Less)

-- if the version is wanted, then it is not less than the best so far
abbrev pub IsTried : (VersionValue → Type 0) → Option VersionValue → VersionValue → Type 0
IsTried Wanted best v = Wanted v → IsNotBelow best v

-- each wanted candidate of the cut is not less than the best so far
abbrev pub IsCutTried : Bool → (VersionValue → Type 0) → Option VersionValue → Cut VersionValue → Type 0
IsCutTried included Wanted best cut = AllByRecursion (IsTried Wanted best) (candidates_at included cut)

-- the least version of the triple that the upper end of the set opens is not less than the best so far, if the set
-- admits it and it is wanted
abbrev pub IsOpenTried : (VersionValue → Type 0) → Option VersionValue → Ends VersionValue → Type 0
IsOpenTried Wanted best set =
    (v : VersionValue) → Opens set.upper v → SetAdmits set (least_of v.major v.minor v.patch)
    → IsTried Wanted best (least_of v.major v.minor v.patch)

-- the candidates of a set were tried: those of its lower end, and the least version of the triple that its upper end
-- opens
pub record IsSetTried (included : Bool) (Wanted : VersionValue → Type 0) (best : Option VersionValue)
    (set : Ends VersionValue)
    : Type 0 where
  pub lower : IsCutTried included Wanted best set.lower
  pub opened : IsOpenTried Wanted best set

-- the best version so far, if there is one, has no build and is wanted
abbrev pub IsBest : (VersionValue → Type 0) → Option VersionValue → Type 0
IsBest Wanted None = Unit {0}
IsBest Wanted (Some best) = Wanted best × (best.build ≡ [])

-- the version is less than the best so far, or there is none so far
abbrev pub IsBelowBest : Option VersionValue → VersionValue → Type 0
IsBelowBest None v = Unit {0}
IsBelowBest (Some best) v = version_cmp v best ≡ Less

-- the least version of the triple that a cut opens, or none if it opens none
abbrev pub IsLeastOpened : Cut VersionValue → Option VersionValue → Type 0
IsLeastOpened cut None = (v : VersionValue) → ¬ Opens cut v
IsLeastOpened cut (Some least) =
    (least.build ≡ []) × ((v : VersionValue) → Opens cut v → least_of v.major v.minor v.patch ≡ least)

-- for each triple that the cut opens, the least version of the triple is not below the cut
abbrev pub IsShut : Cut VersionValue → Type 0
IsShut cut = (v : VersionValue) → Opens cut v → ¬ IsCutBelow version_cmp (Before (least_of v.major v.minor v.patch)) cut

-- one step: the candidates that were tried before stay so, and the best so far still is one
pub record IsStep (Wanted : VersionValue → Type 0) (earlier later : Option VersionValue) : Type 0 where
  pub best : IsBest Wanted earlier → IsBest Wanted later
  pub kept : (v : VersionValue) → IsNotBelow earlier v → IsNotBelow later v

-- a step that tries a version
pub record IsTrial (Wanted : VersionValue → Type 0) (earlier : Option VersionValue) (v : VersionValue)
    (later : Option VersionValue) : Type 0 where
  pub step : IsStep Wanted earlier later
  pub tried : IsTried Wanted later v

-- a step that tries the candidates of a cut
pub record IsCutTrial (included : Bool) (Wanted : VersionValue → Type 0) (earlier : Option VersionValue)
    (cut : Cut VersionValue)
    (later : Option VersionValue) : Type 0 where
  pub step : IsStep Wanted earlier later
  pub tried : IsCutTried included Wanted later cut

-- a step that tries the triple that the upper end of a set opens
pub record IsOpenTrial (Wanted : VersionValue → Type 0) (earlier : Option VersionValue) (set : Ends VersionValue)
    (later : Option VersionValue) : Type 0 where
  pub step : IsStep Wanted earlier later
  pub tried : IsOpenTried Wanted later set

-- a step that tries both for a set
pub record IsSetTrial (included : Bool) (Wanted : VersionValue → Type 0) (earlier : Option VersionValue)
    (set : Ends VersionValue)
    (later : Option VersionValue) : Type 0 where
  pub step : IsStep Wanted earlier later
  pub tried : IsSetTried included Wanted later set

-- the sets of the first range were tried
pub record AreSetsTried (included : Bool) (Wanted : VersionValue → Type 0) (tried : List (Ends VersionValue))
    (found : Option VersionValue)
    : Type 0 where
  pub best : IsBest Wanted found
  pub each : AllByRecursion (IsSetTried included Wanted found) tried

-- the sets of the first range were tried, and one end of each set of the second range
pub record AreEndsTried (included : Bool) (Wanted : VersionValue → Type 0) (end : Ends VersionValue → Cut VersionValue)
    (sets tried : List (Ends VersionValue)) (found : Option VersionValue) : Type 0 where
  pub first : AreSetsTried included Wanted sets found
  pub each : AllByRecursion (λ (set : Ends VersionValue). IsCutTried included Wanted found (end set)) tried

-- the least version that is wanted, without build, or none if none is wanted
abbrev pub IsLeastOrNone : (VersionValue → Type 0) → Option VersionValue → Type 0
IsLeastOrNone Wanted None = IsNoneOf Wanted
IsLeastOrNone Wanted (Some least) = IsLeastOf Wanted least × (least.build ≡ [])
