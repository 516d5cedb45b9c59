-- Where the version of the highest rank is picked, it is the first candidate that is admitted.
use Rattle.std.proofs.Common.{◌≡◌, ◌≢◌, ◌∙◌, ◌++◌, ◌∷◌, ℕ, List, [], true, false, Greater, Less, Some, ap, append-nil, inr, refl, subst, sym}
use Rattle.std.specs.List.{AllByRecursion}
use Rattle.std.specs.List.Sorted.{IsSorted, IsStable}
use Rattle.semver_cuts.specs.Lemmas.Lists.{all_both, all_join, all_map}
use Rattle.serde_json.specs.Data.{Data}
use Rattle.npm_texts.specs.Admission.{Admits, of_dependencies}
use Rattle.npm_pick.specs.Packument.{Release, candidates_of, is_restricted, manifest_of, releases_in, restricted_of, versions_of}
use Rattle.npm_pick.specs.Pick.{HasNoDefault}
use Rattle.npm_pick.specs.Pick as Picks
use Rattle.npm_pick.specs.Rank.{IsBest, IsRankOf, Rank, rank_cmp}
use Rattle.npm_pick.specs.declared.options.Options as Picking
use Rattle.npm_resolve.specs.Candidates.{AreCandidates, IsCandidate, IsEligible}
use Rattle.npm_resolve.specs.Meanings.{IsAdmitted, inside}
use Rattle.npm_resolve.specs.Preference.{candidate_order}
use Rattle.npm_resolve.specs.declared.candidates.candidate.Candidate.{Candidate}
use Rattle.npm_resolve.specs.declared.candidates.options.Options.{Options}
use Rattle.npm_resolve_laws.specs.Alike.{AreAlike, HasKeysOnce}
use Rattle.npm_resolve_laws.specs.Firsts.{AdmitsNone, IsPickedFirst, IsVersion}
use Rattle.npm_resolve_laws.proofs.Defaults.{never_default}
use Rattle.npm_resolve_laws.proofs.Known.{listed_there, of_releases}
use Rattle.npm_resolve_laws.proofs.Listing.{IsListedAt, IsOfFirst, all_restricted, of_each, of_first}
use Rattle.npm_resolve_laws.proofs.Ranking.{comes_before, comes_by_rank, is_order, never_avoided, never_by_rank, rank_is, rank_of, ranked}
use Rattle.npm_resolve_laws.proofs.Sorted.{IsParted, first_of_sorted}

all_left : {X : Type 0} (P : X → Type 0) (xs ys : List X) → AllByRecursion P (xs ++ ys) → AllByRecursion P xs
all_left P [] ys all = tt
all_left P (x ∷ xs) ys all = (all.0, all_left P xs ys all.1)

all_right : {X : Type 0} (P : X → Type 0) (xs ys : List X) → AllByRecursion P (xs ++ ys) → AllByRecursion P ys
all_right P [] ys all = all
all_right P (x ∷ xs) ys all = all_right P xs ys all.1

-- what is restricted is below what is not
below_it : (free bad : Rank) → free.is_avoided ≡ false → bad.is_avoided ≡ false → free.is_restricted ≡ false → bad.is_restricted ≡ true
    → rank_cmp bad free ≡ Less
below_it free bad kept kept_too unrestricted restricted = rw (kept, kept_too, unrestricted, restricted) refl

above_it : (free bad : Rank) → free.is_avoided ≡ false → bad.is_avoided ≡ false → free.is_restricted ≡ false → bad.is_restricted ≡ true
    → rank_cmp free bad ≡ Less → ⊥
above_it free bad kept kept_too unrestricted restricted less =
    let greater : rank_cmp free bad ≡ Greater = rw (kept, kept_too, unrestricted, restricted) refl in cc (less, greater)

abbrev Found : Data → Release → Type 0
Found p r = manifest_of p r.key ≡ Some r.manifest

module _ (p : Data) (o : Options) (picking : Picking.Options) (alike : AreAlike o picking) (once : HasKeysOnce p)
    (cs : List Candidate) (are : AreCandidates p o cs) (range : List ℕ) (default : HasNoDefault p picking range) where
  -- without staged versions, what a pick looks at is what the document has, and what policies restrict
  pub looked_at : candidates_of picking.include_staged p ≡ releases_in (versions_of p) ++ releases_in (restricted_of p)
  looked_at = rw alike.staged (ap (λ l. l ++ releases_in (restricted_of p)) (append-nil (releases_in (versions_of p))))

  abbrev IsOut : Candidate → Type 0
  IsOut c = ¬ IsAdmitted (inside range) c

  -- ---- none

  -- no rank of it says that it is not restricted
  abbrev pub IsUnranked : Release → Type 0
  IsUnranked r = (rank : Rank) → IsRankOf p picking range r rank → rank.is_restricted ≡ false → ⊥

  is_out : (r : Release) (c : Candidate) → Found p r × IsUnranked r → IsCandidate p o r c → IsOut c
  is_out r c has is admitted =
      has.1 (rank_of c) (ranked p o picking alike range r c is (never_default p o picking alike r c is range has.0 default admitted).1) refl

  both_of : (Q : Release → Type 0) (rs : List Release) → AllByRecursion (Found p) rs → AllByRecursion Q rs
      → AllByRecursion (λ (r : Release). Found p r × Q r) rs
  both_of Q rs = all_both (Found p) Q (λ (r : Release). Found p r × Q r) (λ r found q. (found, q)) rs

  pub none_first : AllByRecursion IsUnranked (candidates_of picking.include_staged p) → AdmitsNone (inside range) cs
  none_first none =
      let all : AllByRecursion IsUnranked (releases_in (versions_of p)) = all_left IsUnranked (releases_in (versions_of p))
      (releases_in (restricted_of p)) (subst (AllByRecursion IsUnranked) looked_at none) in
      of_releases p o cs are (λ (r : Release). Found p r × IsUnranked r) IsOut is_out
      (both_of IsUnranked (releases_in (versions_of p)) once all)

  -- ---- one

  module _ (best : Release) (rank : Rank) (is : IsBest p picking range (candidates_of picking.include_staged p) best rank) where
    abbrev IsBelow : Release → Type 0
    IsBelow r = (other : Rank) → IsRankOf p picking range r other → rank_cmp other rank ≡ Less

    abbrev IsNotAbove : Release → Type 0
    IsNotAbove r = (other : Rank) → IsRankOf p picking range r other → rank_cmp rank other ≢ Less

    -- where a policy restricts the best, it restricts each that the range admits
    pub restricted_first : is_restricted p best.key ≡ true → AdmitsNone (inside range) cs
    restricted_first so =
        let restricted : rank.is_restricted ≡ true = is.ranked.restricted ∙ so in
        let kept : rank.is_avoided ≡ false = never_avoided p o picking alike range best rank is.ranked in
        none_first (subst (AllByRecursion IsUnranked) (sym is.parts) (all_join IsUnranked is.before is.after best
        (all_map IsBelow IsUnranked (λ r below other has free. above_it other rank (never_avoided p o picking alike range r other has) kept free restricted (below other has))
        is.before is.above_earlier)
        (λ other has free. cc (free, has.restricted, so))
        (all_map IsNotAbove IsUnranked (λ r no other has free. no other has (below_it other rank (never_avoided p o picking alike range r other has) kept free restricted))
        is.after is.not_below_later)))

    module _ (free : is_restricted p best.key ≡ false) (version : IsVersion best.key) where
      fit : IsEligible p o best.key
      fit = record {
        version = version.0;
        read = version.1;
        published = rw (← alike.before) is.ranked.published;
        allowed = free;
      }

      abbrev Split : Type 0
      Split = IsOfFirst (releases_in (versions_of p)) (releases_in (restricted_of p)) is.before is.after best

      split : Split
      split = of_first (λ (r : Release). is_restricted p r.key ≡ true) (releases_in (versions_of p)) (releases_in (restricted_of p))
          is.before is.after best (sym looked_at ∙ is.parts) (all_restricted p) (λ so. cc (so, free))

      module _ (c : Candidate) (of_best : IsCandidate p o best c) where
        same_rank : rank ≡ rank_of c
        same_rank = rank_is p o picking alike range best c of_best rank is.ranked

        admitted : IsAdmitted (inside range) c
        admitted = inr (subst (λ (r : Rank). Admits of_dependencies range r.version) same_rank is.ranked.admitted)

        off : Found p best → c.is_default ≡ false
        off found = (never_default p o picking alike best c of_best range found default admitted).0

        above : c.is_default ≡ false → (r : Release) (d : Candidate) → Found p r × IsBelow r → IsCandidate p o r d
            → IsAdmitted (inside range) d → comes_before c d ≡ true
        above plain r d has of_r out =
            let other = never_default p o picking alike r d of_r range has.0 default out in
            comes_by_rank c d plain other.0
            (subst (λ (t : Rank). rank_cmp (rank_of d) t ≡ Less) same_rank (has.1 (rank_of d) (ranked p o picking alike range r d of_r other.1)))

        not_below : c.is_default ≡ false → (r : Release) (d : Candidate) → Found p r × IsNotAbove r → IsCandidate p o r d
            → comes_before d c ≡ true → IsOut d
        not_below plain r d has of_r before out =
            let other = never_default p o picking alike r d of_r range has.0 default out in
            never_by_rank d c other.0 plain
            (subst (λ (t : Rank). rank_cmp t (rank_of d) ≢ Less) same_rank (has.1 (rank_of d) (ranked p o picking alike range r d of_r other.1)))
            before

      parted : (at : IsListedAt p o is.before split.rest best are.all) → IsParted comes_before is_order (IsAdmitted (inside range)) cs at.candidate
      parted at =
          let sorted : IsSorted candidate_order cs = rw alike.greatest at are.sorted in
          let stable : IsStable candidate_order are.all cs = rw alike.greatest at are.stable in
          let parts : AllByRecursion (Found p) (is.before ++ best ∷ split.rest) = subst (AllByRecursion (Found p)) split.parts once in
          let later : AllByRecursion (Found p) (best ∷ split.rest) = all_right (Found p) is.before (best ∷ split.rest) parts in
          let plain : at.candidate.is_default ≡ false = off at.candidate at.is later.0 in
          first_of_sorted comes_before is_order (IsAdmitted (inside range)) are.all cs at.front at.back at.candidate are.same sorted stable at.parts
          (of_each p o (λ (r : Release). Found p r × IsBelow r) (λ d. IsAdmitted (inside range) d → comes_before at.candidate d ≡ true)
          (above at.candidate at.is plain) is.before at.front at.of_before
          (both_of IsBelow is.before (all_left (Found p) is.before (best ∷ split.rest) parts) is.above_earlier))
          (of_each p o (λ (r : Release). Found p r × IsNotAbove r) (λ d. comes_before d at.candidate ≡ true → IsOut d)
          (not_below at.candidate at.is plain) split.rest at.back at.of_after
          (both_of IsNotAbove split.rest later.1
          (all_left IsNotAbove split.rest (releases_in (restricted_of p)) (subst (AllByRecursion IsNotAbove) split.others is.not_below_later))))

      pub rank_first : IsPickedFirst (inside range) cs (Picks.inside best.key best.manifest rank.is_avoided)
      rank_first =
          let at : IsListedAt p o is.before split.rest best are.all = listed_there p o cs are best is.before split.rest split.parts fit in
          let cut = parted at in
          record {
            first = at.candidate;
            is = record { before = cut.0; after = cut.1; parts = cut.2; admitted = admitted at.candidate at.is; others = cut.3 };
            key = at.is.key;
            manifest = at.is.manifest;
          }
