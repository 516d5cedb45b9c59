-- Releases that spans contain, and those that are free of them.
use Rattle.std.specs.Prelude.{◌↔◌, ℕ, List}
use Rattle.std.specs.List.{AllByRecursion}
use Rattle.semver_cuts.specs.Ends.{Ends, IsCutBelow}
use Rattle.semver_cuts.specs.Joined.{AreMerged}
use Rattle.node_semver.specs.Cuts.{After, Before, Cut, End, Start}
use Rattle.node_semver.specs.Ranges.{RangeContains}
use Rattle.node_semver.specs.Versions.{IsBelow, IsPlain, IsPrerelease, VersionValue, version_cmp}
use Rattle.npm_advisories.specs.Offers.{IsAskedFor}

-- the cut is just before a release, or it is the start or the end of all cuts
abbrev pub IsAligned : Cut VersionValue → Type 0
IsAligned Start = Unit {0}
IsAligned (Before v) = IsPlain v
IsAligned (After v) = ⊥
IsAligned End = Unit {0}

-- such a cut, and the same releases are below it as below the first one
pub record IsAlignedTo (cut aligned : Cut VersionValue) : Type 0 where
  pub is : IsAligned aligned
  pub same : (v : VersionValue) → ¬ IsPrerelease v
      → IsCutBelow version_cmp (Before v) aligned ↔ IsCutBelow version_cmp (Before v) cut

-- each span ends at such a cut, and the spans contain these releases
pub record HaveReleases (spans : List (Ends VersionValue)) (Has : VersionValue → Type 0) : Type 0 where
  pub aligned : AllByRecursion (λ (span : Ends VersionValue). IsAligned span.upper) spans
  pub exact : (v : VersionValue) → ¬ IsPrerelease v → RangeContains spans v ↔ Has v

-- spans in order that do not touch, each of which ends just before a release or at the end
pub record AreSteps (spans : List (Ends VersionValue)) : Type 0 where
  pub merged : AreMerged version_cmp spans
  pub aligned : AllByRecursion (λ (span : Ends VersionValue). IsAligned span.upper) spans

-- such spans, which contain these releases
pub record AreCovered (spans : List (Ends VersionValue)) (Has : VersionValue → Type 0) : Type 0 where
  pub steps : AreSteps spans
  pub exact : (v : VersionValue) → ¬ IsPrerelease v → RangeContains spans v ↔ Has v

-- a release that is not below another, and that none of the spans contains
pub record IsFreeFrom (spans : List (Ends VersionValue)) (from v : VersionValue) : Type 0 where
  pub release : ¬ IsPrerelease v
  pub reached : ¬ IsBelow v from
  pub free : ¬ RangeContains spans v

-- nor one of the others
pub record IsFreeOfBoth (spans others : List (Ends VersionValue)) (from v : VersionValue) : Type 0 where
  pub free : IsFreeFrom spans from v
  pub other : ¬ RangeContains others v

-- such a release that each of the range texts admits
pub record IsAdmittedFrom (spans : List (Ends VersionValue)) (asked : List (List ℕ)) (from v : VersionValue)
    : Type 0 where
  pub free : IsFreeFrom spans from v
  pub admitted : AllByRecursion (λ text. IsAskedFor text v) asked

-- this release is the least above the version
pub record IsReleaseAbove (version next : VersionValue) : Type 0 where
  pub plain : IsPlain next
  pub least : (v : VersionValue) → ¬ IsPrerelease v → IsBelow version v ↔ (¬ IsBelow v next)

-- the least release that is neither below another nor below a cut
pub record IsPassed (cut : Cut VersionValue) (from next : VersionValue) : Type 0 where
  pub plain : IsPlain next
  pub reached : ¬ IsBelow next from
  pub past : (v : VersionValue) → ¬ IsBelow v next → ¬ IsCutBelow version_cmp (Before v) cut
  pub least : (v : VersionValue) → ¬ IsBelow v from → ¬ IsCutBelow version_cmp (Before v) cut → ¬ IsBelow v next
