-- Walks along the merged spans of two lists: a span that ends below the next span of the other list can be passed.
use Rattle.semver_cuts.specs.Lemmas.TwoSpans.{shares-ends}
use mathlib.Core.Bool.{true≢false}
use Rattle.std.proofs.Common.{◌≡◌, ◌⊎◌, ◌↔◌, ℕ, zero, suc, ◌+◌, ◌<◌, ◌≤◌, List, [], ◌∷◌, Ordering}
use Rattle.std.proofs.Common.{IsTrue, get_or, false}
use Rattle.std.proofs.Common.{drop, length, sym, ap, subst, inl, inr, arith}
use Rattle.std.specs.Cmp.{IsTotalOrder}
use Rattle.std.proofs.lemmas.List.{drop_all, take-append-drop}
use Rattle.semver_cuts.specs.declared.cut.Cut.{Cut}
use Rattle.semver_cuts.specs.SpanLists.{IsInSome, IsWithin}
use Rattle.semver_cuts.specs.Ends.{Ends, IsCutAtMost, IsCutBelow, IsInSpan}
use Rattle.semver_cuts.specs.Joined.{AreJoined, AreMerged}
use Rattle.semver_cuts.specs.Sharing.{HaveCommonCut, CoversAll, ShareCut}
use Rattle.semver_cuts.specs.Lemmas.Apart.{apart-above, merged-drop, merged-tail}
use Rattle.semver_cuts.specs.Lemmas.Ends.{at_most_refl, at_most_trans, below-at_most}
use Rattle.semver_cuts.specs.Lemmas.Ends.{below-not-at_most, below_irrefl, below_trans}
use Rattle.semver_cuts.specs.Lemmas.InSome.{in_some-right, some-above}

module _ {T : Type 0} {cmp : T → T → Ordering} (o : IsTotalOrder cmp) where
  -- a cut in one of the later spans is above the end of the first one
  pub later-above : (span : Ends T) (spans : List (Ends T)) (cut : Cut T) → AreMerged cmp (span ∷ spans)
      → IsInSome cmp spans cut
      → IsCutBelow cmp span.upper cut
  later-above span spans cut are is =
      some-above o cut span.upper spans (apart-above o span spans are.apart are.rising.1) is

  -- and each cut is at or above the lower end of the first one
  pub all-from_first : (span : Ends T) (spans : List (Ends T)) (cut : Cut T) → AreMerged cmp (span ∷ spans)
      → IsInSome cmp (span ∷ spans) cut → IsCutAtMost cmp span.lower cut
  all-from_first span spans cut are (inl here) = here.lower
  all-from_first span spans cut are (inr there) =
      inl (below_trans o span.lower span.upper cut are.rising.0 (later-above span spans cut are there))

  pub first-cut : (span : Ends T) → IsCutBelow cmp span.lower span.upper → IsInSpan cmp span span.lower
  first-cut span rising = record { lower = at_most_refl o span.lower; upper = rising }

  -- the upper end of the first one lies in none
  pub end-outside : (span : Ends T) (spans : List (Ends T)) → AreMerged cmp (span ∷ spans)
      → ¬ IsInSome cmp (span ∷ spans) span.upper
  end-outside span spans are (inl here) = below_irrefl o span.upper here.upper
  end-outside span spans are (inr there) = below_irrefl o span.upper (later-above span spans span.upper are there)

  -- ---- two merged lists, from two places on

  -- the cuts of the spans from a place on are cuts of the list
  pub in-whole : (spans : List (Ends T)) (k : ℕ) (cut : Cut T) → IsInSome cmp (drop k spans) cut → IsInSome cmp spans
      cut
  in-whole spans k cut is = grind (arith, take-append-drop k spans, in_some-right cmp cut)

  module _ (ms ws : List (Ends T)) (ms_are : AreMerged cmp ms) (ws_are : AreMerged cmp ws) (i j : ℕ)
      (one other : Ends T)
      (at : drop i ms ≡ one ∷ drop (i + 1) ms) (other_at : drop j ws ≡ other ∷ drop (j + 1) ws) where
    one_are : AreMerged cmp (one ∷ drop (i + 1) ms)
    one_are = subst (AreMerged cmp) at (merged-drop cmp i ms ms_are)

    other_are : AreMerged cmp (other ∷ drop (j + 1) ws)
    other_are = subst (AreMerged cmp) other_at (merged-drop cmp j ws ws_are)

    -- a span of the first list can be passed if it ends at or below where the next span of the second begins
    pub passed : IsCutAtMost cmp one.upper other.lower → (cut : Cut T) → IsInSome cmp (drop j ws) cut
        → IsInSome cmp (drop i ms) cut → IsInSome cmp (drop (i + 1) ms) cut
    passed past cut there here = grind (arith, all-from_first, other_are, below-not-at_most, at_most_trans)

    -- the two spans share a cut if each begins below where the other ends
    pub share-found : IsCutBelow cmp one.lower other.upper → IsCutBelow cmp other.lower one.upper → ShareCut cmp ms ws
    share-found low high = let shared = (shares-ends o one other one_are.rising.0 other_are.rising.0).1 (low, high) in
        (shared.0, grind (arith, in-whole ms i shared.0), grind (arith, in-whole ws j shared.0))

    -- a span of the second list that lies in the next one of the first
    pub covered : IsCutAtMost cmp one.lower other.lower → IsCutAtMost cmp other.upper one.upper → (cut : Cut T)
        → IsInSome cmp (drop j ws) cut → IsInSome cmp ms cut ⊎ IsInSome cmp (drop (j + 1) ws) cut
    covered low high cut is = grind (arith, in-whole, at_most_trans, below-at_most)

    -- a span of the second list that does not, and begins below the end of the next one of the first
    pub uncovered : IsCutBelow cmp other.lower one.upper
        → IsCutBelow cmp other.lower one.lower ⊎ IsCutBelow cmp one.upper other.upper
        → (cut : Cut T) × IsInSome cmp (drop j ws) cut × ¬ IsInSome cmp (drop i ms) cut
    uncovered begun (inl low) = (
      other.lower,
      grind (arith, first-cut other, other_are),
      grind
          (arith, all-from_first one (drop (i + 1) ms) other.lower one_are, below-not-at_most o),
    )
    uncovered begun (inr high) = (one.upper, grind arith, grind (arith, end-outside one (drop (i + 1) ms) one_are))

  -- ---- the end of a walk

  -- each span from a place on contains a cut
  pub some-from : (spans : List (Ends T)) → AreMerged cmp spans → (k : ℕ) → k < length spans
      → (cut : Cut T) × IsInSome cmp (drop k spans) cut
  some-from [] are k lt = absurd (omega arith)
  some-from (span ∷ spans) are zero lt = (span.lower, inl (first-cut span are.rising.0))
  some-from (span ∷ spans) are (suc k) lt = some-from spans (merged-tail cmp span spans are) k (omega arith)

  pub none-from : (spans : List (Ends T)) (k : ℕ) → length spans ≤ k → (cut : Cut T) → ¬ IsInSome cmp (drop k spans) cut
  none-from spans k h cut is = subst (λ l. IsInSome cmp l cut) (drop_all k spans h) is

  module _ (ones others ms ws : List (Ends T)) (are : AreJoined cmp ones ms) (others_are : AreJoined cmp others ws)
      (i j : ℕ) where
    -- if one of the lists is passed, no cut is shared
    pub not-shared : ((cut : Cut T) → IsInSome cmp ms cut → IsInSome cmp ws cut
        → IsInSome cmp (drop i ms) cut × IsInSome cmp (drop j ws) cut)
        → (length ms ≤ i) ⊎ (length ws ≤ j) → IsTrue false ↔ ShareCut cmp ones others
    not-shared left ended = (
      λ never. absurd (true≢false (sym never)),
      λ shared. let both = left shared.0
          ((are.cuts shared.0).1 shared.1) ((others_are.cuts shared.0).1 shared.2) in absurd
          (grind (arith, both, none-from)),
    )

    -- a cut that is left in the second list alone is not covered
    pub not-covered : ((cut : Cut T) → IsInSome cmp (drop j ws) cut → IsInSome cmp ms cut
        → IsInSome cmp (drop i ms) cut)
        → ((cut : Cut T) × IsInSome cmp (drop j ws) cut × ¬ IsInSome cmp (drop i ms) cut)
        → IsTrue false ↔ CoversAll cmp ones others
    not-covered passed found = grind (arith, in-whole)

-- ---- one span and one span

-- a list with one element
pub one-list : {X : Type 0} (xs : List X) (x : X) → length xs ≡ 1 → x ≡ get_or xs 0 x → xs ≡ x ∷ []
one-list [] x l e = absurd (omega arith)
one-list (y ∷ []) x l e = ap (λ z. z ∷ []) (sym e)
one-list (y ∷ z ∷ xs) x l e = absurd (omega arith)

module _ {T : Type 0} (cmp : T → T → Ordering) (one other : Ends T) where
  pub covers-one : IsWithin cmp other one ↔ CoversAll cmp (one ∷ []) (other ∷ [])
  covers-one = grind arith

  pub shares-one : HaveCommonCut cmp one other ↔ ShareCut cmp (one ∷ []) (other ∷ [])
  shares-one = grind arith
