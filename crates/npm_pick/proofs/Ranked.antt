-- A release has one rank, ranks have a total order, and the best of releases as one more is looked at.
use Rattle.std.proofs.Common.{◌≡◌, ◌≢◌, ◌↔◌, ◌∙◌, ℕ, List, [], ◌∷◌, ◌++◌, Bool, true, false, IsTrue, Option, Some, None}
use Rattle.std.proofs.Common.{ap, append-nil, append_assoc, inl, inr, not, option_map, refl, subst, sym}
use Rattle.std.specs.Cmp.{IsTotalOrder, bool_cmp_total, on_total, then_total}
use Rattle.std.specs.List.{AllByRecursion}
use Rattle.std.specs.declared.cmp.Ordering.{Ordering}
use Rattle.std.specs.declared.cmp.Ordering.TheVariants.{Equal, Greater, Less}
use Rattle.semver_cuts.specs.Lemmas.Lists.{all-append, all_map}
use Rattle.semver_texts.specs.Lemmas.Public.{version_total}
use Rattle.serde_json.specs.Data.{Data, Members, member, no_members}
use Rattle.node_semver.specs.Versions.{VersionValue}
use Rattle.npm_pick.specs.Packument.{Release, releases_among}
use Rattle.npm_pick.specs.Lemmas.Readings.{one_version}
use Rattle.npm_pick.specs.Private.Comparing.{IsBestSoFar, IsBetter}
use Rattle.npm_pick.specs.Ranking.{IsBestOrNone, rank_value, release_of}
use Rattle.npm_pick.specs.Rank.{HasNone, IsAvoided, IsBest, IsRankOf, Rank, is_sound, rank_cmp}
use Rattle.npm_pick.specs.declared.rank.best.Found.{Found}
use Rattle.npm_pick.specs.declared.options.Options.{Options}

-- ---- one rank

same_bool : (x y : Bool) (P : Type 0) → (IsTrue x ↔ P) → (IsTrue y ↔ P) → x ≡ y
same_bool true true P h g = refl
same_bool true false P h g = sym (g.1 (h.0 refl))
same_bool false true P h g = h.1 (g.0 refl)
same_bool false false P h g = refl

same_rank : (a b : Rank) → a.is_avoided ≡ b.is_avoided → a.is_restricted ≡ b.is_restricted
    → a.is_staged ≡ b.is_staged → a.is_deprecated ≡ b.is_deprecated → a.fits ≡ b.fits → a.version ≡ b.version → a ≡ b
same_rank a b s r t d f v = λ i. record {
  is_avoided = s i;
  is_restricted = r i;
  is_staged = t i;
  is_deprecated = d i;
  fits = f i;
  version = v i;
}

pub one_rank : (p : Data) (o : Options) (range : List ℕ) (release : Release) (a b : Rank)
    → IsRankOf p o range release a → IsRankOf p o range release b → a ≡ b
one_rank p o range release a b h g =
    let v : a.version ≡ b.version = one_version release.key a.version b.version h.read g.read in
    let avoid : Option (List ℕ) = option_map (λ text. text.now) o.avoid in
    let s : a.is_avoided ≡ b.is_avoided = same_bool a.is_avoided b.is_avoided (IsAvoided avoid a.version) h.avoided
    (subst (λ (x : VersionValue). IsTrue b.is_avoided ↔ IsAvoided avoid x) (sym v) g.avoided) in
    same_rank a b s (h.restricted ∙ sym g.restricted) (h.staged ∙ sym g.staged) (h.deprecated ∙ sym g.deprecated)
    (same_bool a.fits b.fits _ h.fitting g.fitting) v

-- ---- the order of ranks

pub rank_total : IsTotalOrder rank_cmp
rank_total = then_total (on_total (λ (r : Rank). not r.is_avoided) bool_cmp_total)
    (then_total (on_total (λ (r : Rank). not r.is_restricted) bool_cmp_total)
    (then_total (on_total (λ (r : Rank). not r.is_staged) bool_cmp_total)
    (then_total (on_total is_sound bool_cmp_total)
    (then_total (on_total (λ (r : Rank). r.fits) bool_cmp_total)
    (then_total (on_total (λ (r : Rank). not r.is_deprecated) bool_cmp_total)
    (on_total (λ (r : Rank). r.version) version_total))))))

below_at : (a b c : Rank) (o : Ordering) → rank_cmp a b ≡ o → rank_cmp b a ≢ Less → rank_cmp b c ≡ Less
    → rank_cmp a c ≡ Less
below_at a b c Less is up less = rank_total.trans a b c is less
below_at a b c Equal is up less = rank_total.congr a b c is ∙ less
below_at a b c Greater is up less =
    let turned : rank_cmp b a ≡ Less = rank_total.antisymm b a ∙ (rw is refl) in absurd (up turned)

-- ---- one more release

module _ (p : Data) (o : Options) (range : List ℕ) where
  -- no rank is as high
  abbrev IsLower : Rank → Release → Type 0
  IsLower rank release = (other : Rank) → IsRankOf p o range release other → rank_cmp other rank ≡ Less

  -- no rank is higher
  abbrev IsNotHigher : Rank → Release → Type 0
  IsNotHigher rank release = (other : Rank) → IsRankOf p o range release other → rank_cmp rank other ≢ Less

  abbrev HasNoRank : Release → Type 0
  HasNoRank release = (rank : Rank) → ¬ IsRankOf p o range release rank

  first_best : (done : List Release) (x : Release) (r : Rank) → HasNone p o range done → IsRankOf p o range x r
      → IsBest p o range (done ++ x ∷ []) x r
  first_best done x r none is = record {
    before = done;
    after = [];
    parts = refl;
    ranked = is;
    above_earlier = all_map HasNoRank (IsLower r) (λ e past other ranked. absurd (past other ranked)) done none;
    not_below_later = tt;
  }

  higher_best : (done : List Release) (b x : Release) (s r : Rank) → IsBest p o range done b s
      → IsRankOf p o range x r → rank_cmp s r ≡ Less → IsBest p o range (done ++ x ∷ []) x r
  higher_best done b x s r best is less = record {
    before = done;
    after = [];
    parts = refl;
    ranked = is;
    above_earlier = subst (AllByRecursion (IsLower r)) (sym best.parts)
        (all-append (IsLower r) best.before (b ∷ best.after)
        (all_map (IsLower s) (IsLower r) (λ e low other ranked. rank_total.trans other s r (low other ranked) less)
        best.before best.above_earlier) (
          (λ other ranked. subst (λ (t : Rank). rank_cmp t r ≡ Less)
              (one_rank p o range b s other best.ranked ranked) less),
          all_map (IsNotHigher s) (IsLower r)
              (λ e up other ranked. below_at other s r (rank_cmp other s) refl (up other ranked) less)
              best.after best.not_below_later,
        ));
    not_below_later = tt;
  }

  kept_best : (done : List Release) (b x : Release) (s : Rank) → IsBest p o range done b s → IsNotHigher s x
      → IsBest p o range (done ++ x ∷ []) b s
  kept_best done b x s best up = record {
    before = best.before;
    after = best.after ++ x ∷ [];
    parts = ap (λ (l : List Release). l ++ x ∷ []) best.parts ∙ append_assoc best.before (b ∷ best.after) (x ∷ []);
    ranked = best.ranked;
    above_earlier = best.above_earlier;
    not_below_later = all-append (IsNotHigher s) best.after (x ∷ []) best.not_below_later (up, tt);
  }

  more_found : (done : List Release) (best : Option Found) (next found : Found) → IsBestOrNone p o range done best
      → IsRankOf p o range (release_of next) (rank_value next.rank) → IsBetter best next found
      → IsBestOrNone p o range (done ++ release_of next ∷ []) (Some found)
  more_found done None next found none is better =
      subst (λ (f : Found). IsBestOrNone p o range (done ++ release_of next ∷ []) (Some f)) (sym better)
      (first_best done (release_of next) (rank_value next.rank) none is)
  more_found done (Some b) next found best is (inl (less, better)) =
      subst (λ (f : Found). IsBestOrNone p o range (done ++ release_of next ∷ []) (Some f)) (sym better)
      (higher_best done (release_of b) (release_of next) (rank_value b.rank) (rank_value next.rank) best is less)
  more_found done (Some b) next found best is (inr (up, better)) =
      subst (λ (f : Found). IsBestOrNone p o range (done ++ release_of next ∷ []) (Some f)) (sym better)
      (kept_best done (release_of b) (release_of next) (rank_value b.rank) best
      (λ other ranked. subst (λ (t : Rank). rank_cmp (rank_value b.rank) t ≢ Less)
      (one_rank p o range (release_of next) (rank_value next.rank) other is ranked) up))

  none_found : (done : List Release) (best : Option Found) (x : Release) → IsBestOrNone p o range done best
      → HasNoRank x → IsBestOrNone p o range (done ++ x ∷ []) best
  none_found done None x none past = all-append HasNoRank done (x ∷ []) none (past, tt)
  none_found done (Some b) x best past = kept_best done (release_of b) x (rank_value b.rank) best
      (λ other ranked. absurd (past other ranked))

  -- ---- in the loop

  pub walked_found : (all : List Release) (left : Members) (best : Option Found) (next found : Found)
      → IsBestSoFar p o range all (member (release_of next).key (release_of next).manifest left) best
      → IsRankOf p o range (release_of next) (rank_value next.rank) → IsBetter best next found
      → IsBestSoFar p o range all left (Some found)
  walked_found all left best next found so is better = record {
    done = so.done ++ release_of next ∷ [];
    parts = so.parts ∙ sym (append_assoc so.done (release_of next ∷ []) (releases_among left));
    found = more_found so.done best next found so.found is better;
  }

  pub walked_past : (all : List Release) (left : Members) (best : Option Found) (x : Release)
      → IsBestSoFar p o range all (member x.key x.manifest left) best → HasNoRank x
      → IsBestSoFar p o range all left best
  walked_past all left best x so past = record {
    done = so.done ++ x ∷ [];
    parts = so.parts ∙ sym (append_assoc so.done (x ∷ []) (releases_among left));
    found = none_found so.done best x so.found past;
  }

  pub walked_all : (all : List Release) (best : Option Found) → IsBestSoFar p o range all no_members best
      → IsBestOrNone p o range all best
  walked_all all best so =
      subst (λ (l : List Release). IsBestOrNone p o range l best) (sym (so.parts ∙ append-nil so.done)) so.found
