-- The candidates at a cut: the least release that can be after it, and the least version if that is a prerelease.
use native.Mathlib.Omega.{arith}
use Rattle.std.proofs.lemmas.Grind.{common_steps}
use Rattle.std.proofs.Common.{◌≡◌, ◌≢◌, ◌⊎◌, ◌+◌, true, false, List, [], ◌∷◌, ◌++◌, refl, inl, inr, Ordering, Less}
use Rattle.std.proofs.Common.{Equal, Greater}
use Rattle.std.specs.List.{AllByRecursion}
use Rattle.std.specs.Ordering.{ordering_then}
use Rattle.semver_cuts.specs.declared.cut.Cut.{Cut}
use Rattle.semver_cuts.specs.declared.cut.Cut.TheVariants.{Start, Before, After, End}
use Rattle.semver_cuts.specs.Ends.{IsCutAtMost, IsCutBelow}
use Rattle.semver_cuts.specs.Lemmas.Ends.{at_most_trans}
use Rattle.semver_texts.specs.Comparison.{version_cmp}
use Rattle.semver_texts.specs.IdentifierValue.{IdentifierValue, numeric}
use Rattle.semver_sets.specs.Meaning.{Opens}
use Rattle.semver_texts.specs.Version.{HasSameTriple, IsPrerelease, VersionValue, least_of, release, without_build}
use Rattle.semver_texts.specs.Lemmas.Public.{Less-version, none-below_least}
use Rattle.semver_versions.specs.Lemmas.Public.{none-between_patches}
use Rattle.semver_versions.specs.Lemmas.Public.{none-between_zeros, patch-above}
use Rattle.semver_texts.specs.Lemmas.Public.{prerelease-below}
use Rattle.semver_versions.specs.Lemmas.Public.{prerelease-from_below}
use Rattle.semver_texts.specs.Lemmas.Public.{triple-back, triple-between}
use Rattle.semver_texts.specs.Lemmas.Public.{version_total}
use Rattle.semver_versions.specs.Lemmas.Public.{with_zero-above}
use Rattle.semver_sets.specs.Lemmas.Convex.{by-value, from-cmp}
use Rattle.semver_versions.specs.VersionSteps.{with_zero}
use Rattle.node_semver.specs.Private.CandidateViews.{after_by, before_by, candidates_at}
use Rattle.node_semver.proofs.Least.LeastLemmas.{IsFloor, after-floor, at-least, before-floor, start-floor}

-- ---- the least version after a cut, and the release of its triple

-- a release after the cut, and none after the cut is below it
pub record IsReleaseFrom (c : Cut VersionValue) (x : VersionValue) : Type 0 where
  pub final : ¬ IsPrerelease x
  pub at : IsCutAtMost version_cmp c (Before x)
  pub none_below : (w : VersionValue) → ¬ IsPrerelease w → IsCutAtMost version_cmp c (Before w)
      → ¬ (version_cmp w x ≡ Less)

release-from : (c : Cut VersionValue) (f x : VersionValue) → IsFloor c f → HasSameTriple f x → ¬ IsPrerelease x
    → IsReleaseFrom c x
release-from c f x floor triple final = grind (
  arith,
  at_most_trans version_total c (Before f) (Before x) floor.at
      (at-least f x (λ less. final (prerelease-from_below x f (triple-back f x triple) (Less-version x f less)))),
)

pub plain-floor : (v : VersionValue) → IsFloor (Before v) (without_build v)
plain-floor v = grind (arith, before-floor v)

pub zero-floor : (v : VersionValue) → IsPrerelease v → IsFloor (After v) (with_zero v)
zero-floor v pre = after-floor v (with_zero v) (with_zero-above v pre) (λ w. none-between_zeros v w pre)

pub patch-floor : (v : VersionValue) → ¬ IsPrerelease v → IsFloor (After v) (least_of v.major v.minor (v.patch + 1))
patch-floor v final = after-floor v (least_of v.major v.minor (v.patch + 1)) (patch-above v)
    (λ w above. none-between_patches v w final above)

-- ---- one candidate is such a release

-- of which P holds, as of all candidates
pub record ReleaseOf (P : VersionValue → Type 0) (c : Cut VersionValue) : Type 0 where
  pub version : VersionValue
  pub is : P version
  pub first : IsReleaseFrom c version

module _ (P : VersionValue → Type 0) where
  before-release : (v : VersionValue) (xs : List IdentifierValue) → AllByRecursion P (before_by v xs)
      → P (release v.major v.minor v.patch)
  before-release v xs h1 = grind arith

  after-release : (v : VersionValue) (xs : List IdentifierValue) → v.pre_release ≡ xs → AllByRecursion P
      (after_by false v xs)
      → ReleaseOf P (After v)
  after-release v xs h1 h2 = grind (arith, common_steps, release-from, patch-floor, zero-floor)

  past-end : (w : VersionValue) → ¬ IsCutAtMost version_cmp End (Before w)
  past-end w = grind arith

  pub release-candidate : (c : Cut VersionValue) (w : VersionValue) → IsCutAtMost version_cmp c (Before w)
      → AllByRecursion P (candidates_at false c) → ReleaseOf P c
  release-candidate Start w below all = grind (arith, release-from, start-floor)
  release-candidate (Before v) w below all = grind (arith, common_steps, before-release, release-from, before-floor)
  release-candidate (After v) w below all = after-release v v.pre_release refl all
  release-candidate End w below all = absurd (past-end w below)

-- ---- with prereleases included, one candidate is the least version after the cut

pub record FloorOf (P : VersionValue → Type 0) (c : Cut VersionValue) : Type 0 where
  pub version : VersionValue
  pub is : P version
  pub first : IsFloor c version

module _ (P : VersionValue → Type 0) where
  before-any : (v : VersionValue) (xs : List IdentifierValue) → v.pre_release ≡ xs → AllByRecursion P (before_by v xs)
      → FloorOf P (Before v)
  before-any v xs h1 h2 = grind (arith, before-floor v, plain-floor v)

  after-any : (v : VersionValue) (xs : List IdentifierValue) → v.pre_release ≡ xs
      → AllByRecursion P (after_by true v xs) → FloorOf P (After v)
  after-any v [] e all = grind (arith, patch-floor v (λ pre. pre e))
  after-any v (x ∷ xs) e all = grind (arith, zero-floor v (λ none. cc (e, none)))

  pub floor-candidate : (c : Cut VersionValue) (w : VersionValue) → IsCutAtMost version_cmp c (Before w)
      → AllByRecursion P (candidates_at true c) → FloorOf P c
  floor-candidate Start w below all = record { version = least_of 0 0 0; is = all.0; first = start-floor }
  floor-candidate (Before v) w below all = before-any v v.pre_release refl all
  floor-candidate (After v) w below all = after-any v v.pre_release refl all
  floor-candidate End w below all = absurd (past-end P w below)

-- ---- among the prereleases of a triple one candidate is the least version after the cut

abbrev pub least_of_triple : VersionValue → VersionValue
least_of_triple w = least_of w.major w.minor w.patch

-- a cut between the least version of a triple and a prerelease of it is at a prerelease of it
stands-at : (w v : VersionValue) → IsPrerelease w
    → (version_cmp (least_of_triple w) v ≡ Less) ⊎ (version_cmp (least_of_triple w) v ≡ Equal)
    → (version_cmp v w ≡ Less) ⊎ (version_cmp v w ≡ Equal) → IsPrerelease v × HasSameTriple v w
stands-at w v pre from to =
    let t = triple-between (least_of_triple w) v w (from-cmp (least_of_triple w) v from) (from-cmp v w to)
    (record { major = refl; minor = refl; patch = refl }) in
    (prerelease-below v w (from-cmp v w to) t pre, t)

pub record PrereleaseOf (P : VersionValue → Type 0) (c : Cut VersionValue) (w : VersionValue) : Type 0 where
  pub version : VersionValue
  pub is : P version
  pub pre : IsPrerelease version
  pub triple : HasSameTriple version w
  pub first : IsFloor c version

module _ (P : VersionValue → Type 0) where
  after-prerelease : (v : VersionValue) (xs : List IdentifierValue) → xs ≢ [] → AllByRecursion P (after_by false v xs)
      → P (with_zero v)
  after-prerelease v xs h1 h2 = grind arith

  longer : (xs : List IdentifierValue) → xs ++ numeric 0 ∷ [] ≢ []
  longer xs = grind (arith, common_steps)

  pub prerelease-candidate : (c : Cut VersionValue) (w : VersionValue) → IsPrerelease w
      → IsCutAtMost version_cmp (Before (least_of_triple w)) c → IsCutAtMost version_cmp c (Before w)
      → AllByRecursion P (candidates_at false c) → PrereleaseOf P c w
  prerelease-candidate Start w pre from to all = elim from [ inl e ↦ cc e | inr e ↦ cc e ]
  prerelease-candidate (Before v) w pre from to all = grind (arith, stands-at w v pre from to, plain-floor v)
  prerelease-candidate (After v) w pre from to all =
      let at = stands-at w v pre (by-value (version_cmp (least_of_triple w) v) Less from)
      (by-value (version_cmp v w) Greater to) in
      record {
        version = with_zero v;
        is = after-prerelease v v.pre_release at.0 all;
        pre = longer v.pre_release;
        triple = record { major = at.1.major; minor = at.1.minor; patch = at.1.patch };
        first = zero-floor v at.0;
      }
  prerelease-candidate End w pre from to all = elim to [ inl e ↦ cc e | inr e ↦ cc e ]

-- ---- a cut below all versions of a triple does not open it

below-after : (r : Ordering) → ordering_then r Greater ≡ Less → r ≡ Less
below-after r h1 = grind arith

pub shut-below : (c : Cut VersionValue) (w : VersionValue) → IsCutBelow version_cmp c (Before (least_of_triple w))
    → ¬ Opens c w
shut-below Start w below opens = opens
shut-below (Before v) w below opens = none-below_least v w.major w.minor w.patch
    (record { major = opens.1.major; minor = opens.1.minor; patch = opens.1.patch })
    (Less-version v (least_of_triple w) below)
shut-below (After v) w below opens = none-below_least v w.major w.minor w.patch
    (record { major = opens.1.major; minor = opens.1.minor; patch = opens.1.patch })
    (Less-version v (least_of_triple w) (below-after (version_cmp v (least_of_triple w)) below))
shut-below End w below opens = opens
