-- Candidates that are tried one after another, so that the best stays the least of them.
use native.Mathlib.Omega.{arith}
use Rattle.std.proofs.Common.{◌≡◌, ◌≢◌, ◌+◌, ◌<◌, ℕ, Bool, List, [], ◌∷◌, Option, Some, length, get_or, take}
use Rattle.std.proofs.Common.{Less}
use Rattle.std.proofs.lemmas.List.{take_more}
use Rattle.std.specs.Cmp.{tied_itself}
use Rattle.std.specs.List.{AllByRecursion}
use Rattle.semver_cuts.specs.declared.cut.Cut.{Cut}
use Rattle.semver_cuts.specs.declared.cut.Cut.TheVariants.{Before, After}
use Rattle.semver_cuts.specs.Ends.{Ends}
use Rattle.semver_cuts.specs.Lemmas.Lists.{all-append, all_map}
use Rattle.semver_texts.specs.Comparison.{version_cmp}
use Rattle.semver_texts.specs.IdentifierValue.{IdentifierValue}
use Rattle.semver_texts.specs.Version.{IsPrerelease, VersionValue, release, without_build}
use Rattle.semver_texts.specs.Lemmas.Public.{version_total}
use Rattle.semver_versions.specs.VersionSteps.{with_zero}
use Rattle.node_semver.specs.Private.CandidateViews.{AreEndsTried, AreSetsTried, IsBelowBest, IsCutTrial, IsCutTried}
use Rattle.node_semver.specs.Private.CandidateViews.{IsOpenTrial, IsSetTrial, IsSetTried, IsStep}
use Rattle.node_semver.specs.Private.CandidateViews.{IsTrial, IsTried, after_by, before_by, candidates_at, first_of}

never-below_itself : (v : VersionValue) → ¬ (version_cmp v v ≡ Less)
never-below_itself v less = cc (less, tied_itself version_total v)

module _ (included : Bool) (Wanted : VersionValue → Type 0) where
  -- ---- one version more

  pub step-step : (a b c : Option VersionValue) → IsStep Wanted a b → IsStep Wanted b c
      → IsStep Wanted a c
  step-step a b c first second = grind arith

  -- a version that was tried stays tried
  tried-kept : (a b : Option VersionValue) → IsStep Wanted a b → (v : VersionValue) → IsTried Wanted a v
      → IsTried Wanted b v
  tried-kept a b step v tried = λ beyond. step.kept v (tried beyond)

  -- a version that is below the best so far
  lower-step : (best : Option VersionValue) (v : VersionValue) → v.build ≡ [] → IsBelowBest best v
      → Wanted v
      → IsStep Wanted best (Some v)
  lower-step best v h1 h2 h3 = grind (arith, version_total)

  pub trial-found : (best : Option VersionValue) (v : VersionValue) → v.build ≡ [] → IsBelowBest best v
      → Wanted v → IsTrial Wanted best v (Some v)
  trial-found best v plain below beyond = grind (arith, lower-step, never-below_itself)

  -- ---- a cut more

  all-kept : (a b : Option VersionValue) → IsStep Wanted a b → (vs : List VersionValue)
      → AllByRecursion (IsTried Wanted a) vs → AllByRecursion (IsTried Wanted b) vs
  all-kept a b step vs all = all_map (IsTried Wanted a) (IsTried Wanted b) (tried-kept a b step) vs all

  before-two : (P : VersionValue → Type 0) (v : VersionValue) (xs : List IdentifierValue) → xs ≢ []
      → P (without_build v)
      → P (release v.major v.minor v.patch) → AllByRecursion P (before_by v xs)
  before-two P v xs h1 h2 h3 = grind arith

  before-one : (P : VersionValue → Type 0) (v : VersionValue) (xs : List IdentifierValue) → ¬ (xs ≢ [])
      → P (release v.major v.minor v.patch) → AllByRecursion P (before_by v xs)
  before-one P v xs h1 h2 = grind arith

  after-two : (P : VersionValue → Type 0) (v : VersionValue) (xs : List IdentifierValue) → xs ≢ [] → P (with_zero v)
      → P (release v.major v.minor v.patch) → AllByRecursion P (after_by included v xs)
  after-two P v xs h1 h2 h3 = grind arith

  after-one : (P : VersionValue → Type 0) (v : VersionValue) (xs : List IdentifierValue) → ¬ (xs ≢ [])
      → P (first_of included v.major v.minor (v.patch + 1)) → AllByRecursion P (after_by included v xs)
  after-one P v xs h1 h2 = grind arith

  pub before-prerelease-trial : (best first later : Option VersionValue) (v : VersionValue) → IsPrerelease v
      → IsTrial Wanted best (without_build v) first
      → IsTrial Wanted first (release v.major v.minor v.patch) later
      → IsCutTrial included Wanted best (Before v) later
  before-prerelease-trial best first later v pre one two = grind (arith, step-step, before-two, tried-kept)

  pub before-release-trial : (best later : Option VersionValue) (v : VersionValue) → ¬ IsPrerelease v
      → IsTrial Wanted best (release v.major v.minor v.patch) later → IsCutTrial included Wanted best (Before v) later
  before-release-trial best later v final only = grind (arith, before-one)

  pub after-prerelease-trial : (best first later : Option VersionValue) (v : VersionValue) → IsPrerelease v
      → IsTrial Wanted best (with_zero v) first → IsTrial Wanted first (release v.major v.minor v.patch) later
      → IsCutTrial included Wanted best (After v) later
  after-prerelease-trial best first later v pre one two = grind (arith, step-step, after-two, tried-kept)

  pub after-release-trial : (best later : Option VersionValue) (v : VersionValue) → ¬ IsPrerelease v
      → IsTrial Wanted best (first_of included v.major v.minor (v.patch + 1)) later
      → IsCutTrial included Wanted best (After v) later
  after-release-trial best later v final only = grind (arith, after-one)

  -- ---- a set more

  pub set-trial : (best first later : Option VersionValue) (set : Ends VersionValue)
      → IsCutTrial included Wanted best set.lower first → IsOpenTrial Wanted first set later
      → IsSetTrial included Wanted best set later
  set-trial best first later set one two = grind (arith, step-step, all-kept)

  set-kept : (a b : Option VersionValue) → IsStep Wanted a b → (set : Ends VersionValue)
      → IsSetTried included Wanted a set
      → IsSetTried included Wanted b set
  set-kept a b step set tried = grind (arith, all-kept, tried-kept)

  more-taken : (P : Ends VersionValue → Type 0) (all : List (Ends VersionValue)) (k : ℕ) (set : Ends VersionValue)
      → k < length all → set ≡ get_or all k set → AllByRecursion P (take k all) → P set
      → AllByRecursion P (take (k + 1) all)
  more-taken P all k set lt is each this =
      grind (arith, take_more all k set lt, all-append P (take k all) (set ∷ []) each (this, tt))

  pub sets-more : (all : List (Ends VersionValue)) (k : ℕ) (set : Ends VersionValue)
      (earlier later : Option VersionValue)
      → k < length all → set ≡ get_or all k set → AreSetsTried included Wanted (take k all) earlier
      → IsSetTrial included Wanted earlier set later → AreSetsTried included Wanted (take (k + 1) all) later
  sets-more all k set earlier later lt is tried trial = grind (
    arith,
    more-taken (IsSetTried included Wanted later) all k set lt is
        (grind (arith, all_map, set-kept)) trial.tried,
  )

  pub ends-more : (end : Ends VersionValue → Cut VersionValue) (sets all : List (Ends VersionValue)) (k : ℕ)
      (set : Ends VersionValue) (earlier later : Option VersionValue)
      → k < length all → set ≡ get_or all k set → AreEndsTried included Wanted end sets (take k all) earlier
      → IsCutTrial included Wanted earlier (end set) later → AreEndsTried included Wanted end sets (take (k + 1) all)
      later
  ends-more end sets all k set earlier later lt is tried trial =
      let Earlier : Ends VersionValue → Type 0 = λ s. IsCutTried included Wanted earlier (end s) in
      let Now : Ends VersionValue → Type 0 = λ s. IsCutTried included Wanted later (end s) in
      record {
        first = grind (arith, all_map, set-kept);
        each = more-taken Now all k set lt is
            (grind (arith, all_map, all-kept))
            trial.tried;
      }
