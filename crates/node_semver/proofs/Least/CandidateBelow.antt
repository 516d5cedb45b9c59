-- The least version that is wanted, of those that one list of sets admits: for each wanted version some candidate that
-- is wanted is not above it.
use native.Mathlib.Omega.{arith}
use Rattle.std.proofs.lemmas.Grind.{common_steps}
use Rattle.std.proofs.Common.{◌≡◌, Bool, true, false, List, [], ◌∷◌, Option, Some, None, refl, inl, inr, subst, Less}
use Rattle.std.specs.List.{AllByRecursion}
use Rattle.semver_cuts.specs.declared.cut.Cut.{Cut}
use Rattle.semver_cuts.specs.declared.cut.Cut.TheVariants.{Before}
use Rattle.semver_cuts.specs.Ends.{Ends, IsCutAtMost, IsCutBelow}
use Rattle.semver_cuts.specs.Lemmas.Lists.{all_map}
use Rattle.semver_cuts.specs.Lemmas.Ends.{at_most-below, at_most-or-below, at_most_trans}
use Rattle.semver_texts.specs.Comparison.{version_cmp}
use Rattle.semver_texts.specs.IdentifierValue.{IdentifierValue}
use Rattle.semver_sets.specs.Meaning.{Opens, SetAdmits}
use Rattle.semver_texts.specs.Version.{IsPrerelease, VersionValue}
use Rattle.semver_texts.specs.Lemmas.Public.{Less-version, none-below_least, version-Less, version_total}
use Rattle.node_semver.specs.Private.CandidateViews.{AreEndsTried, IsLeastOrNone, IsNotBelow, IsSetTried}
use Rattle.node_semver.specs.Private.CandidateViews.{IsTried, candidates_at}
use Rattle.node_semver.specs.Private.LeastViews.{IsIn, IsInRange}
use Rattle.node_semver.proofs.Least.Candidates.{floor-candidate, least_of_triple, prerelease-candidate}
use Rattle.node_semver.proofs.Least.Candidates.{release-candidate}
use Rattle.node_semver.proofs.Least.Candidates.{shut-below}
use Rattle.node_semver.proofs.Least.HighestCut.{AskAlike, IsAlike, both_prereleases, both_releases}
use Rattle.node_semver.proofs.Least.HighestCut.{highest, set-between, some-along}
use Rattle.node_semver.proofs.Least.LeastLemmas.{at-least, lies-inside}
use Rattle.node_semver.proofs.Least.LeastOfSets.{not-below}

-- ---- what is wanted

-- the first list of sets has what is wanted. What holds of a version holds of a version below it that asks the same of
-- ends, where no lower end of the first list lies between the two, nor the `end` of a set of the second
pub record IsQuestion (included : Bool) (sets others : List (Ends VersionValue))
    (end : Ends VersionValue → Cut VersionValue)
    (Wanted : VersionValue → Type 0) : Type 0 where
  pub admitted : (v : VersionValue) → Wanted v → IsInRange included sets v
  pub between : (c : Cut VersionValue) (x w : VersionValue) → IsAlike included x w → IsCutAtMost version_cmp c
      (Before x)
      → IsCutAtMost version_cmp (Before x) (Before w)
      → AllByRecursion (λ (set : Ends VersionValue). IsCutAtMost version_cmp set.lower (Before w)
      → IsCutAtMost version_cmp set.lower c) sets
      → AllByRecursion (λ (set : Ends VersionValue). IsCutAtMost version_cmp (end set) (Before w)
      → IsCutAtMost version_cmp (end set) c) others
      → Wanted w → Wanted x

-- ---- a candidate that is not above the version

-- of which P holds, as of all candidates
pub record CandidateBelow (P Wanted : VersionValue → Type 0) (w : VersionValue) : Type 0 where
  pub version : VersionValue
  pub is : P version
  pub wanted : Wanted version
  pub at_most : ¬ (version_cmp w version ≡ Less)

-- P holds of the candidates at the lower end of a set, and of the least version of a triple that its upper end opens
pub record IsCandidateSet (included : Bool) (P : VersionValue → Type 0) (set : Ends VersionValue) : Type 0 where
  pub lower : AllByRecursion P (candidates_at included set.lower)
  pub opened : (v : VersionValue) → Opens set.upper v → SetAdmits set (least_of_triple v) → P (least_of_triple v)

module _ (included : Bool) (P Wanted : VersionValue → Type 0) (sets others : List (Ends VersionValue))
    (end : Ends VersionValue → Cut VersionValue) (question : IsQuestion included sets others end Wanted)
    (w : VersionValue) (wanted : Wanted w) where
  -- a cut that is not above the version, and no lower end of the sets nor end of the others lies between
  record IsLastCut (c : Cut VersionValue) : Type 0 where
    below : IsCutAtMost version_cmp c (Before w)
    lowers : AllByRecursion (λ (s : Ends VersionValue). IsCutAtMost version_cmp s.lower (Before w)
        → IsCutAtMost version_cmp s.lower c) sets
    ends : AllByRecursion (λ (s : Ends VersionValue). IsCutAtMost version_cmp (end s) (Before w)
        → IsCutAtMost version_cmp (end s) c) others

  -- a candidate that is one between them
  between : (c : Cut VersionValue) → IsLastCut c → (x : VersionValue) → P x → IsAlike included x w
      → IsCutAtMost version_cmp c (Before x)
      → ¬ (version_cmp w x ≡ Less) → CandidateBelow P Wanted w
  between c last x is alike from above = record {
    version = x;
    is = is;
    wanted = question.between c x w alike from (at-least x w above) last.lowers last.ends wanted;
    at_most = above;
  }

  -- where it is a release
  of-release : (c : Cut VersionValue) → IsLastCut c → AllByRecursion P (candidates_at false c) → ¬ IsPrerelease w
      → CandidateBelow P Wanted w
  of-release c last all final =
      let found = release-candidate P c w last.below all in
      between c last found.version found.is (inr (both_releases found.first.final final)) found.first.at
      (found.first.none_below w final last.below)

  -- if it is a prerelease and the cut is at a prerelease of its triple
  of-prerelease : (c : Cut VersionValue) → IsLastCut c → AllByRecursion P (candidates_at false c) → IsPrerelease w
      → IsCutAtMost version_cmp (Before (least_of_triple w)) c → CandidateBelow P Wanted w
  of-prerelease c last all pre from =
      let found = prerelease-candidate P c w pre from last.below all in
      between c last found.version found.is (inr (both_prereleases found.pre pre found.triple)) found.first.at
      (found.first.none_below w last.below)

  -- where it is a prerelease and the cut is below its triple: an upper end opens it
  of-opened : (c : Cut VersionValue) → IsLastCut c → (set : Ends VersionValue) → IsCandidateSet included P set →
      SetAdmits set w
      → IsCutAtMost version_cmp set.lower c → IsPrerelease w
      → IsCutBelow version_cmp c (Before (least_of_triple w)) → CandidateBelow P Wanted w
  of-opened c last set candidates admits lower pre below =
      let zero = least_of_triple w in
      let alike : AskAlike zero w = both_prereleases (λ e. cc e) pre
      (record { major = refl; minor = refl; patch = refl }) in
      let above : ¬ (version_cmp w zero ≡ Less) = λ less. none-below_least w w.major w.minor w.patch
      (record { major = refl; minor = refl; patch = refl }) (Less-version w zero less) in
      let shut : ¬ Opens set.lower w =
      shut-below set.lower w (at_most-below version_total set.lower c (Before zero) lower below) in
      let opens : Opens set.upper w = elim (admits.opened pre) [
        | inl opens ↦ absurd
            (shut opens)
        | inr opens ↦ opens
      ] in
      let admitted = set-between false c zero w (inr alike) (inl below) (at-least zero w above) set (λ _. lower) admits
      in
      between c last zero (candidates.opened w opens admitted) (inr alike) (inl below) above

  by-cut : (c : Cut VersionValue) → IsLastCut c → AllByRecursion P (candidates_at false c) → (set : Ends VersionValue)
      → IsCandidateSet included P set → SetAdmits set w → IsCutAtMost version_cmp set.lower c
      → (xs : List IdentifierValue) → w.pre_release ≡ xs → CandidateBelow P Wanted w
  by-cut c last all set candidates admits lower [] e = of-release c last all (λ pre. pre e)
  by-cut c last all set candidates admits lower (x ∷ xs) e =
      let pre : IsPrerelease w = λ none. cc (e, none) in
      elim (at_most-or-below version_total (Before (least_of_triple w)) c) [
        | inl from ↦ of-prerelease c last all pre from
        | inr below ↦ of-opened c last set candidates admits lower pre below
      ]

  -- with prereleases included, the least version after the cut is one
  at-cut : (c : Cut VersionValue) → IsLastCut c → AllByRecursion P (candidates_at included c) →
      (set : Ends VersionValue)
      → IsCandidateSet included P set → IsIn included set w → IsCutAtMost version_cmp set.lower c → (b : Bool)
      → included ≡ b → CandidateBelow P Wanted w
  at-cut c last all set candidates is lower true e =
      let found = floor-candidate P c w last.below
      (subst (λ (b : Bool). AllByRecursion P (candidates_at b c)) e all) in
      between c last found.version found.is (inl e) found.first.at (found.first.none_below w last.below)
  at-cut c last all set candidates is lower false e =
      grind (
        arith,
        by-cut c last (subst (λ (b : Bool). AllByRecursion P (candidates_at b c)) e all) set candidates
            (subst (λ (b : Bool). IsIn b set w) e is) lower w.pre_release refl,
      )

  pub candidate-below : AllByRecursion (IsCandidateSet included P) sets
      → AllByRecursion (λ (other : Ends VersionValue). AllByRecursion P (candidates_at included (end other))) others
      → CandidateBelow P Wanted w
  candidate-below each tried =
      let Tried : Cut VersionValue → Type 0 = λ c. AllByRecursion P (candidates_at included c) in
      let some = some-along (IsCandidateSet included P) (λ (s : Ends VersionValue). IsIn included s w) sets each
      (question.admitted w wanted) in
      let set = some.0 in
      let first = highest Tried (λ (s : Ends VersionValue). s.lower) w sets set.lower some.1.lower
      (lies-inside included set w some.2).lower
      (all_map (IsCandidateSet included P) (λ (s : Ends VersionValue). Tried s.lower)
      (λ s candidates. candidates.lower) sets each) in
      let last = highest Tried end w others first.cut first.is
      first.highest.below tried in
      let c = last.cut in
      let cut : IsLastCut c = record {
        below = last.highest.below;
        lowers = all_map
            (λ (s : Ends VersionValue). IsCutAtMost version_cmp s.lower (Before w)
            → IsCutAtMost version_cmp s.lower first.cut)
            (λ (s : Ends VersionValue). IsCutAtMost version_cmp s.lower (Before w) → IsCutAtMost version_cmp s.lower c)
            (λ s at_most inside. at_most_trans version_total s.lower first.cut c
            (at_most inside) last.highest.above)
            sets first.highest.each;
        ends = last.highest.each;
      } in
      at-cut c cut last.is set some.1 some.2
      (at_most_trans version_total set.lower first.cut c first.highest.above last.highest.above) included refl

-- ---- the least version

-- a version at least one that is not below the best is not below it
not-below-best : (best : Option VersionValue) (v w : VersionValue) → ¬ (version_cmp w v ≡ Less) → IsNotBelow best v
    → IsNotBelow best w
not-below-best best v w h1 h2 = grind (arith, common_steps, not-below)

module _ (included : Bool) (Wanted : VersionValue → Type 0) (sets others : List (Ends VersionValue))
    (end : Ends VersionValue → Cut VersionValue) (question : IsQuestion included sets others end Wanted) where
  -- where all candidates were tried, no version that is wanted is below the best
  all-above : (best : Option VersionValue) → AreEndsTried included Wanted end sets others best → (w : VersionValue) →
      Wanted w
      → IsNotBelow best w
  all-above best tried w wanted =
      let P : VersionValue → Type 0 = IsTried Wanted best in
      let found = candidate-below included P Wanted sets others end question w wanted
      (all_map (IsSetTried included Wanted best) (IsCandidateSet included P)
      (λ s set. record { lower = set.lower; opened = set.opened }) sets tried.first.each) tried.each in
      not-below-best best found.version w found.at_most (found.is found.wanted)

  pub best-least : (best : Option VersionValue) → AreEndsTried included Wanted end sets others best
      → IsLeastOrNone Wanted best
  best-least None tried = all-above None tried
  best-least (Some b) tried = (
    record {
      wanted = tried.first.best.0;
      none_below = λ w wanted below. all-above (Some b) tried w wanted (version-Less w b below);
    },
    tried.first.best.1,
  )
