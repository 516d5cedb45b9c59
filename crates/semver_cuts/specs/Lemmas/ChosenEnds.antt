-- The chosen ends of a list of spans: after one more span, that the choice is unique, and the cuts between the two.
use native.Mathlib.Omega.{arith}
use Rattle.std.specs.Prelude.{◌≡◌, ◌≢◌, ◌↔◌, List, [], ◌∷◌, ◌++◌}
use mathlib.Core.Path.{sym, subst, ◌∙◌}
use mathlib.Core.Logic.{inl, inr}
use Rattle.std.specs.declared.cmp.Ordering.{Ordering}
use Rattle.std.specs.Cmp.{IsTotalOrder}
use Rattle.std.specs.List.{AllByRecursion}
use Rattle.std.proofs.lemmas.List.{append_assoc}
use Rattle.semver_cuts.specs.declared.cut.Cut.{Cut}
use Rattle.semver_cuts.specs.SpanLists.{HasCutInEvery, IsInEvery}
use Rattle.semver_cuts.specs.Ends.{Ends, HoldsCut, IsCutAtMost, IsCutBelow, IsInSpan, span_between}
use Rattle.semver_cuts.specs.ChosenEnds.{IsChosenEnd, IsFirstLeastUpper, IsLastGreatestLower}
use Rattle.semver_cuts.specs.KeptEnds.{IsEarlierLeast, IsLaterGreatest}
use Rattle.semver_cuts.specs.Lemmas.Ends.{at_most_refl, at_most_trans, below-at_most, below-not-at_most}
use Rattle.semver_cuts.specs.Lemmas.Lists.{all_both, all_join, all_map, all_middle, all_push}

-- ---- any choice of an end

-- a list with an element in its middle is not empty
middle≢[] : {X : Type 0} (before after : List X) (x : X) → before ++ x ∷ after ≢ []
middle≢[] [] after x e = cc e
middle≢[] (y ∷ before) after x e = cc e

module _ {T : Type 0} (end : Ends T → Cut T) (Before After : Cut T → Cut T → Type 0)
    (clash : (c d : Cut T) → Before c d → After d c → ⊥) (c d : Cut T) where
  -- if `Before` and `After` never hold together, only one place can be chosen
  same-place : (before before' after after' : List (Ends T)) (span span' : Ends T)
      → before ++ span ∷ after ≡ before' ++ span' ∷ after' → end span ≡ c → end span' ≡ d
      → AllByRecursion (λ (other : Ends T). Before (end other) c) before
      → AllByRecursion (λ (other : Ends T). Before (end other) d) before'
      → AllByRecursion (λ (other : Ends T). After (end other) c) after
      → AllByRecursion (λ (other : Ends T). After (end other) d) after' → c ≡ d
  same-place [] [] after after' span span' same p q e e' l l' = cc (same, p, q)
  same-place [] (y ∷ before') after after' span span' same p q e e' l l' =
      let later = all_middle _ before' after' span' (subst (AllByRecursion (λ (s : Ends T). After (end s) c)) (cc same)
      l) in
      absurd (grind (arith, clash c d, later))
  same-place (x ∷ before) [] after after' span span' same p q e e' l l' =
      let later = all_middle _ before after span (subst (AllByRecursion (λ (s : Ends T). After (end s) d)) (cc same) l')
      in
      absurd (grind (arith, clash d c, later))
  same-place (x ∷ before) (y ∷ before') after after' span span' same p q e e' l l' =
      same-place before before' after after' span span' (cc same) p q e.1 e'.1 l l'

module _ {T : Type 0} {end : Ends T → Cut T} {Before After : Cut T → Cut T → Type 0} where
  -- the choice stays if `After` holds between the span that is added and it
  chosen-kept : {spans : List (Ends T)} {chosen : Cut T} (span : Ends T) → IsChosenEnd end Before After spans chosen
      → After (end span) chosen → IsChosenEnd end Before After (spans ++ span ∷ []) chosen
  chosen-kept span h1 h2 = search (arith, append_assoc, all_push)

  -- a fact of the ends before the chosen one, of itself, and of those after it is a fact of all ends
  chosen-all : (P : Cut T → Type 0) {spans : List (Ends T)} {chosen : Cut T} → IsChosenEnd end Before After spans chosen
      → ((c : Cut T) → Before c chosen → P c) → P chosen → ((c : Cut T) → After c chosen → P c)
      → AllByRecursion (λ (other : Ends T). P (end other)) spans
  chosen-all P h1 h2 h3 h4 = search (arith, all_join, all_map)

  -- a fact of all ends is a fact of the chosen one
  pub chosen-of : (P : Cut T → Type 0) {spans : List (Ends T)} {chosen : Cut T} → IsChosenEnd end Before After spans
      chosen
      → AllByRecursion (λ (other : Ends T). P (end other)) spans → P chosen
  chosen-of P h1 h2 = grind (arith, all_middle)

  chosen-unique : ((c d : Cut T) → Before c d → After d c → ⊥) → {spans : List (Ends T)} {one other : Cut T}
      → IsChosenEnd end Before After spans one → IsChosenEnd end Before After spans other → one ≡ other
  chosen-unique clash {one = one} {other = other} is is' = grind (arith, same-place end Before After clash one other)

-- the only span is chosen, and so is the last one if `Before` holds between all the others and it
chosen-last : {T : Type 0} (end : Ends T → Cut T) (Before After : Cut T → Cut T → Type 0)
    → (spans : List (Ends T)) (span : Ends T)
    → AllByRecursion (λ (other : Ends T). Before (end other) (end span)) spans
    → IsChosenEnd end Before After (spans ++ span ∷ []) (end span)
chosen-last end Before After spans span h1 = grind arith

-- ---- the last of the greatest lower ends, and the first of the least upper ends

module _ {T : Type 0} {cmp : T → T → Ordering} (o : IsTotalOrder cmp) where
  lower-last : (spans : List (Ends T)) (span : Ends T)
      → AllByRecursion (λ (s : Ends T). IsCutAtMost cmp s.lower span.lower) spans
      → IsLastGreatestLower cmp (spans ++ span ∷ []) span.lower
  lower-last = chosen-last (λ (s : Ends T). s.lower) (λ c d. IsCutAtMost cmp c d) (λ c d. IsCutBelow cmp c d)

  upper-last : (spans : List (Ends T)) (span : Ends T)
      → AllByRecursion (λ (s : Ends T). IsCutBelow cmp span.upper s.upper) spans
      → IsFirstLeastUpper cmp (spans ++ span ∷ []) span.upper
  upper-last = chosen-last (λ (s : Ends T). s.upper) (λ c d. IsCutBelow cmp d c) (λ c d. IsCutAtMost cmp d c)

  -- the chosen ends of one span are its own
  pub chosen_lower-one : (span : Ends T) → IsLastGreatestLower cmp (span ∷ []) span.lower
  chosen_lower-one span = lower-last [] span tt

  pub chosen_upper-one : (span : Ends T) → IsFirstLeastUpper cmp (span ∷ []) span.upper
  chosen_upper-one span = upper-last [] span tt

  -- each lower end is at most the chosen one
  pub chosen_lower-above : (spans : List (Ends T)) (chosen : Cut T) → IsLastGreatestLower cmp spans chosen
      → AllByRecursion (λ (span : Ends T). IsCutAtMost cmp span.lower chosen) spans
  chosen_lower-above spans chosen is =
      chosen-all (λ c. IsCutAtMost cmp c chosen) is (λ c h. h) (at_most_refl o chosen) (λ c h. inl h)

  -- and each upper end at least the chosen one
  pub chosen_upper-below : (spans : List (Ends T)) (chosen : Cut T) → IsFirstLeastUpper cmp spans chosen
      → AllByRecursion (λ (span : Ends T). IsCutAtMost cmp chosen span.upper) spans
  chosen_upper-below spans chosen is =
      chosen-all (λ c. IsCutAtMost cmp chosen c) is (λ c h. inl h) (at_most_refl o chosen) (λ c h. h)

  -- the choice of a list and a span after it
  pub chosen_lower-push : (spans : List (Ends T)) (span : Ends T) (old new : Cut T) → IsLastGreatestLower cmp spans old
      → IsLaterGreatest cmp old span.lower new → IsLastGreatestLower cmp (spans ++ span ∷ []) new
  chosen_lower-push spans span old new is (inl h) = grind (arith, chosen-kept)
  chosen_lower-push spans span old new is (inr h) = grind (
    arith,
    lower-last spans span
        (all_map _ _ (λ s p. at_most_trans o s.lower old span.lower p h.0) spans (chosen_lower-above spans old is)),
  )

  pub chosen_upper-push : (spans : List (Ends T)) (span : Ends T) (old new : Cut T) → IsFirstLeastUpper cmp spans old
      → IsEarlierLeast cmp old span.upper new → IsFirstLeastUpper cmp (spans ++ span ∷ []) new
  chosen_upper-push spans span old new is (inl h) = grind (
    arith,
    upper-last spans span
        (all_map _ _ (λ s p. below-at_most o span.upper old s.upper h.0 p) spans (chosen_upper-below spans old is)),
  )
  chosen_upper-push spans span old new is (inr h) = grind (arith, chosen-kept)

  -- only one end is chosen
  pub chosen_lower-unique : (spans : List (Ends T)) (one other : Cut T) → IsLastGreatestLower cmp spans one
      → IsLastGreatestLower cmp spans other → one ≡ other
  chosen_lower-unique spans one other is is' = search (arith, chosen-unique, below-not-at_most o)

  pub chosen_upper-unique : (spans : List (Ends T)) (one other : Cut T) → IsFirstLeastUpper cmp spans one
      → IsFirstLeastUpper cmp spans other → one ≡ other
  chosen_upper-unique spans one other is is' = search (arith, chosen-unique, below-not-at_most o)

  -- and none is chosen of no spans
  pub chosen_lower-some : (spans : List (Ends T)) (chosen : Cut T) → IsLastGreatestLower cmp spans chosen → spans ≢ []
  chosen_lower-some spans chosen is empty = middle≢[] is.before is.after is.span (sym is.parts ∙ empty)

  -- ---- the intersection of the spans

  module _ (spans : List (Ends T)) (lower upper : Cut T) (l : IsLastGreatestLower cmp spans lower)
      (u : IsFirstLeastUpper cmp spans upper) where
    every-between : (cut : Cut T) → IsInEvery cmp spans cut → IsInSpan cmp (span_between lower upper) cut
    every-between cut all = record {
      lower = chosen-of (λ c. IsCutAtMost cmp c cut) l (all_map _ _ (λ s h. h.lower) spans all);
      upper = chosen-of (λ c. IsCutBelow cmp cut c) u (all_map _ _ (λ s h. h.upper) spans all);
    }

    between-every : (cut : Cut T) → IsInSpan cmp (span_between lower upper) cut → IsInEvery cmp spans cut
    between-every cut is = all_both _ _ _ (λ s p q. grind (arith, at_most_trans o s.lower, below-at_most o cut upper))
        spans (chosen_lower-above spans lower l) (chosen_upper-below spans upper u)

    -- a cut lies in each span exactly if it lies between the chosen ends
    pub in_every-between : (cut : Cut T) → IsInEvery cmp spans cut ↔ IsInSpan cmp (span_between lower upper) cut
    in_every-between cut = (every-between cut, between-every cut)

    -- some cut lies in each span exactly if one lies between the chosen ends
    pub common-holds : HasCutInEvery cmp spans ↔ HoldsCut cmp (span_between lower upper)
    common-holds = (λ h. (h.0, every-between h.0 h.1), λ h. (h.0, between-every h.0 h.1))
