-- Merged lists with the same cuts have the same spans.
use native.Mathlib.Omega.{arith}
use Rattle.std.proofs.Common.{◌↔◌, List, [], ◌∷◌, Ordering, inl}
use Rattle.std.specs.Cmp.{IsTotalOrder}
use Rattle.semver_cuts.specs.declared.cut.Cut.{Cut}
use Rattle.semver_cuts.specs.SpanLists.{IsInSome}
use Rattle.semver_cuts.specs.Ends.{Ends, IsCutAtMost, IsInSpan}
use Rattle.semver_cuts.specs.Joined.{AreMerged, AreSameSpans}
use Rattle.semver_cuts.specs.Lemmas.Apart.{apart-tail}
use Rattle.semver_cuts.specs.Lemmas.Ends.{at_most-below, at_most-both, at_most-or-below, below-at_most}
use Rattle.semver_cuts.specs.Lemmas.Ends.{below-not-at_most}
use Rattle.semver_cuts.specs.Lemmas.Ends.{below_irrefl}
use Rattle.semver_cuts.proofs.Walks.{all-from_first, first-cut, later-above}

module _ {T : Type 0} {cmp : T → T → Ordering} (o : IsTotalOrder cmp) where
  -- the first span of one list does not end lower than that of the other
  ends-no_lower : (one : Ends T) (ones : List (Ends T)) (other : Ends T) → AreMerged cmp (one ∷ ones)
      → ((cut : Cut T) → IsInSpan cmp other cut → IsInSome cmp (one ∷ ones) cut) → IsCutAtMost cmp other.lower one.lower
      → IsCutAtMost cmp other.upper one.upper
  ends-no_lower one ones other are within le =
      let low = at_most-below o other.lower one.lower one.upper le are.rising.0 in
      grind (arith, at_most-or-below o other.upper one.upper, below_irrefl o, later-above o)

  later-in : (one : Ends T) (ones : List (Ends T)) (other : Ends T) (others : List (Ends T))
      → AreMerged cmp (one ∷ ones)
      → IsCutAtMost cmp other.upper one.upper
      → ((cut : Cut T) → IsInSome cmp (one ∷ ones) cut → IsInSome cmp (other ∷ others) cut)
      → (cut : Cut T) → IsInSome cmp ones cut → IsInSome cmp others cut
  later-in one ones other others are le within cut is = grind (arith, later-above, below-at_most, below-not-at_most)

  tail-merged : (one : Ends T) (ones : List (Ends T)) → AreMerged cmp (one ∷ ones) → AreMerged cmp ones
  tail-merged one ones are = record { rising = are.rising.1; apart = apart-tail cmp one ones are.apart }

  -- merged lists with the same cuts have the same spans
  pub same-spans : (ones others : List (Ends T)) → AreMerged cmp ones → AreMerged cmp others
      → ((cut : Cut T) → IsInSome cmp ones cut ↔ IsInSome cmp others cut) → AreSameSpans cmp ones others
  same-spans [] [] are others_are same = tt
  same-spans [] (other ∷ others) are others_are same = grind (arith, first-cut o)
  same-spans (one ∷ ones) [] are others_are same = grind (arith, first-cut o)
  same-spans (one ∷ ones) (other ∷ others) are others_are same =
      let low = all-from_first o other others one.lower others_are
      ((same one.lower).0 (inl (first-cut o one are.rising.0))) in
      let low' = all-from_first o one ones other.lower are ((same other.lower).1
      (inl (first-cut o other others_are.rising.0))) in
      let high = ends-no_lower one ones other are (λ cut is. (same cut).1 (inl is)) low in
      let high' = ends-no_lower other others one others_are (λ cut is. (same cut).0 (inl is)) low' in (
        record { lower = at_most-both o _ _ low' low; upper = at_most-both o _ _ high' high },
        same-spans ones others (tail-merged one ones are) (tail-merged other others others_are)
            (λ cut. (
              later-in one ones other others are high (λ c is. (same c).0 is) cut,
              later-in other others one ones others_are high' (λ c is. (same c).1 is) cut,
            )),
      )
