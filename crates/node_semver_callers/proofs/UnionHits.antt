-- What a range admits beyond the union of several others.
use Rattle.std.proofs.Common.{◌↔◌, ◌≡◌, ◌<◌, ◌+◌, ℕ, List, [], ◌∷◌, ◌++◌, Option, Some, None, IfSome, IsNone, inl, inr}
use Rattle.std.proofs.Common.{◌≤◌, ◌∙◌, ap, get_or, length, subst, suc, sym, take}
use Rattle.std.proofs.lemmas.List.{take_all, take_more}
use Rattle.std.specs.Prelude.{◌⊎◌}
use Rattle.semver_cuts.specs.declared.cut.Cut.{Cut}
use Rattle.semver_cuts.specs.SpanLists.{IsInSome}
use Rattle.semver_cuts.specs.Ends.{Ends}
use Rattle.semver_cuts.specs.Lemmas.Lists.{any-either, any-left, any-right}
use Rattle.node_semver.specs.Versions.{version_cmp}
use Rattle.node_semver.specs.Ranges.{AnyByRecursion, RangeAdmits}
use Rattle.node_semver.specs.Versions.{VersionValue}
use Rattle.node_semver.specs.Least.{AdmitsBeyond, IsLeastOf, IsNoneOf}
use Rattle.node_semver.specs.RangeAlgebra.{sets_of_answer}
use Rattle.node_semver_callers.specs.Advisory.{HasCut, IsHit, IsSpared}

-- `P` holds of a range exactly where it holds of one of some ranges
abbrev pub IsOfSome : {X : Type 0} → (X → Type 0) → X → List X → Type 0
IsOfSome P union ranges = P union ↔ AnyByRecursion P ranges

module _ {X : Type 0} (P : X → Type 0) where
  -- of the first alone
  pub of-one : (one : X) → IsOfSome P one (one ∷ [])
  of-one one = (
    λ p. inl p,
    λ some. elim some [
      | inl p ↦ p
      | inr none ↦ absurd none
    ],
  )

  -- of one range more
  of-more : (before : List X) (union range next : X) → IsOfSome P union before → (P next ↔ (P union ⊎ P range))
      → IsOfSome P next (before ++ range ∷ [])
  of-more before union range next so either = (
    λ p. elim (either.0 p) [
      | inl old ↦ any-left P before (range ∷ []) (so.0 old)
      | inr new ↦ any-right P before (range ∷ []) (inl new)
    ],
    λ some. either.1 (elim (any-either P before (range ∷ []) some) [
      | inl old ↦ inl (so.1 old)
      | inr new ↦ inr ((of-one range).1 new)
    ]),
  )

  module _ (ranges : List X) (first : X) (others : List X) (parts : ranges ≡ first ∷ others) where
    -- of the first of a list
    pub of-first : (union : X) → union ≡ first → IsOfSome P union (take (suc 0) ranges)
    of-first union e = rw (parts, e) (of-one first)

    -- of the first ones and the next one
    pub of-next : (i : ℕ) (union range next : X) → i < length others → range ≡ get_or others i range
        → IsOfSome P union (take (suc i) ranges) → (P next ↔ (P union ⊎ P range))
        → IsOfSome P next (take (suc (i + 1)) ranges)
    of-next i union range next lt is so either =
        let before = subst (λ l. IsOfSome P union (take (suc i) l)) parts so in
        let more = of-more (first ∷ take i others) union range next before either in
        let longer : first ∷ take (i + 1) others ≡ (first ∷ take i others) ++ range ∷ [] =
        ap (λ (l : List X). first ∷ l) (take_more others i range lt ∙ ap (λ x. take i others ++ x ∷ []) (sym is)) in
        subst (λ l. IsOfSome P next (take (suc (i + 1)) l)) (sym parts) (subst (IsOfSome P next) (sym longer) more)

    -- of all
    pub of-all : (i : ℕ) (union : X) → length others ≤ i → IsOfSome P union (take (suc i) ranges)
        → IsOfSome P union ranges
    of-all i union done so =
        subst (IsOfSome P union) (ap (λ (l : List X). first ∷ l) (take_all i others done) ∙ sym parts)
        (subst (λ l. IsOfSome P union (take (suc i) l)) parts so)

-- the union of an advisory, where it has one
module _ (advisory : List (List (Ends VersionValue))) (found : Option (List (Ends VersionValue)))
    (union : List (Ends VersionValue)) (is : found ≡ Some union) where
  pub hits-some : ((v : VersionValue) → RangeAdmits (sets_of_answer found) v ↔ IsHit advisory v)
      → (v : VersionValue) → RangeAdmits union v ↔ IsHit advisory v
  hits-some hits = subst (λ f. (v : VersionValue) → RangeAdmits (sets_of_answer f) v ↔ IsHit advisory v) is hits

  pub cuts-some : ((cut : Cut VersionValue) → IsInSome version_cmp (sets_of_answer found) cut ↔ HasCut advisory cut)
      → (cut : Cut VersionValue) → IsInSome version_cmp union cut ↔ HasCut advisory cut
  cuts-some cuts =
      subst (λ f. (cut : Cut VersionValue) → IsInSome version_cmp (sets_of_answer f) cut ↔ HasCut advisory cut) is cuts

module _ (range : List (Ends VersionValue)) (advisory : List (List (Ends VersionValue))) where
  -- what the range admits beyond the advisory's union is what the advisory spares
  pub beyond-spared : (union : List (Ends VersionValue)) → ((v : VersionValue) → RangeAdmits union v ↔ IsHit advisory v)
      → (v : VersionValue) → AdmitsBeyond range union v ↔ IsSpared range advisory v
  beyond-spared union hit v = (
    λ beyond. record {
      admitted = beyond.admitted;
      unhit = λ is. beyond.turned_away ((hit v).1 is);
    },
    λ spared. record {
      admitted = spared.admitted;
      turned_away = λ admits. spared.unhit ((hit v).0 admits);
    },
  )

  -- an advisory without ranges spares all
  pub all-spared : advisory ≡ [] → (v : VersionValue) → RangeAdmits range v ↔ IsSpared range advisory v
  all-spared none v = (
    λ admits. record {
      admitted = admits;
      unhit = λ is. let here : IsHit [] v = subst (λ a. IsHit a v) none is in here;
    },
    λ spared. spared.admitted,
  )

  -- so the least of the one is the least of the other
  module _ (Wanted : VersionValue → Type 0) (same : (v : VersionValue) → Wanted v ↔ IsSpared range advisory v) where
    pub least-spared : (found : Option VersionValue) → IfSome found (IsLeastOf Wanted)
        → IfSome found (IsLeastOf (IsSpared range advisory))
    least-spared None least = tt
    least-spared (Some v) least = record {
      wanted = (same v).0 least.wanted;
      none_below = λ w spared. least.none_below w ((same w).1 spared);
    }

    pub none-spared : (found : Option VersionValue) → IsNone found ↔ IsNoneOf Wanted
        → IsNone found ↔ IsNoneOf (IsSpared range advisory)
    none-spared found none = (
      λ is v spared. none.0 is v ((same v).1 spared),
      λ no. none.1 (λ v wanted. no v ((same v).0 wanted)),
    )
