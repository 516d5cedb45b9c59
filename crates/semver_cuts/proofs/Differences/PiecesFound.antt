-- The pieces of a span that are found along merged spans are all its pieces, and each is a greatest one.
use native.Mathlib.Omega.{arith}
use Rattle.std.proofs.Common.{◌≡◌, ℕ, zero, suc, List, [], ◌∷◌, ◌++◌, Ordering, drop, take, inl, inr, refl}
use Rattle.std.proofs.lemmas.List.{take-append-drop}
use Rattle.std.specs.List.{AllByRecursion}
use Rattle.std.specs.Cmp.{IsTotalOrder}
use Rattle.semver_cuts.specs.declared.cut.Cut.{Cut}
use Rattle.semver_cuts.specs.SpanLists.{IsInSome}
use Rattle.semver_cuts.specs.Ends.{Ends, IsCutAtMost, IsCutBelow, IsInSpan}
use Rattle.semver_cuts.specs.Difference.{ArePieces, IsFirstAt, IsInDifference, IsPiece, IsPieceLower, IsPieceUpper}
use Rattle.semver_cuts.specs.Joined.{AreJoined, AreRising}
use Rattle.semver_cuts.specs.Private.FirstAbove.{IsFirstAbove}
use Rattle.semver_cuts.specs.Lemmas.Apart.{merged-drop}
use Rattle.semver_cuts.specs.Lemmas.Ends.{at_most_refl, at_most_trans, below-not-at_most}
use Rattle.semver_cuts.specs.Lemmas.InSome.{in_some-right}
use Rattle.semver_cuts.specs.Lemmas.Lists.{all_both}
use Rattle.semver_cuts.proofs.Differences.GreatestSpans.{HasGapBelow, each-in_some, ends-free, gaps-below, greatest}
use Rattle.semver_cuts.proofs.Differences.PiecesAlong.{ArePiecesFrom, HasFirstEnds, IsWalked}

module _ {T : Type 0} {cmp : T → T → Ordering} (o : IsTotalOrder cmp) where
  -- a cut at or above another that lies in some of the spans lies in those that end above the other
  not-before : (low : Cut T) (front back : List (Ends T)) (cut : Cut T)
      → AllByRecursion (λ (s : Ends T). IsCutAtMost cmp s.upper low) front
      → IsCutAtMost cmp low cut → IsInSome cmp (front ++ back) cut → IsInSome cmp back cut
  not-before low [] back cut below l is = is
  not-before low (span ∷ front) back cut below l (inl here) = grind (arith, below-not-at_most o, at_most_trans o)
  not-before low (span ∷ front) back cut below l (inr there) = not-before low front back cut below.1 l there

  all-drop : {X : Type 0} (P : X → Type 0) (k : ℕ) (xs : List X) → AllByRecursion P xs → AllByRecursion P (drop k xs)
  all-drop P zero xs all = all
  all-drop P (suc k) [] all = tt
  all-drop P (suc k) (x ∷ xs) all = all-drop P k xs all.1

  module _ (others joined : List (Ends T)) (are : AreJoined cmp others joined) (one : Ends T)
      (rising : IsCutBelow cmp one.lower one.upper) (k : ℕ) (first : IsFirstAbove cmp joined one.lower k) where
    parts : take k joined ++ drop k joined ≡ joined
    parts = take-append-drop k joined

    module _ (pieces : List (Ends T)) (from : ArePiecesFrom cmp others one one.lower (drop k joined) pieces) where
      left : (cut : Cut T) → IsInSome cmp pieces cut → IsInDifference cmp others one cut
      left cut is = grind (arith, not-before, parts)

      kept : (cut : Cut T) → IsInDifference cmp others one cut → IsInSome cmp pieces cut
      kept cut is = grind (arith, parts, in_some-right cmp cut)

      each-piece : (some : List (Ends T)) → AreRising cmp some
          → AllByRecursion (λ (s : Ends T). (cut : Cut T) → IsInSpan cmp s cut → IsInSome cmp pieces cut) some
          → AllByRecursion (λ (s : Ends T). ¬ (IsInSome cmp pieces s.upper)) some
          → AllByRecursion (HasGapBelow o pieces) some
          → AllByRecursion (λ (s : Ends T). IsPieceLower cmp others one s.lower) some
          → AllByRecursion (λ (s : Ends T). IsPieceUpper cmp others one s.upper) some
          → AllByRecursion (IsPiece cmp others one) some
      each-piece [] rise in' free gaps lowers uppers = tt
      each-piece (s ∷ some) rise in' free gaps lowers uppers = (
        record {
          holds = (s.lower, record { lower = at_most_refl o s.lower; upper = rise.0 });
          left = λ cut is. left cut (in'.0 cut is);
          greatest = λ wider all within. greatest o pieces s wider rise.0 free.0 gaps.0
              (λ cut is. kept cut (all cut is)) within;
          lower = lowers.0;
          upper = uppers.0;
        },
        each-piece some rise.1 in'.1 free.1 gaps.1 lowers.1 uppers.1,
      )

      found-all : ArePieces cmp others one pieces
      found-all = grind (arith, each-piece, each-in_some cmp, ends-free o, gaps-below o, kept)

    -- the walk begins at the first of the joined spans that ends above where `one` begins
    pub walked-first : IsWalked o others one one.lower (drop k joined) []
    walked-first = record {
      below = rising;
      least = at_most_refl o one.lower;
      end = inl refl;
      over = first.above;
      merged = merged-drop cmp k joined are.merged;
      first = all-drop (HasFirstEnds cmp others) k joined
          (all_both (λ (s : Ends T). IsFirstAt cmp (λ (s : Ends T). s.lower) others s.lower)
          (λ (s : Ends T). IsFirstAt cmp (λ (s : Ends T). s.upper) others s.upper) (HasFirstEnds cmp others)
          (λ s p q. (p, q)) joined are.lowers are.uppers);
      left = found-all;
    }
