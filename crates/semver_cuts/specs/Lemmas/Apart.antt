-- Lists of spans that are apart, and merged lists: the spans before and after one of them.
use Rattle.semver_cuts.specs.Ends.{IsCutAtMost}
use Rattle.semver_cuts.specs.Lemmas.Ends.{at_most-below, below-at_most}
use Rattle.semver_cuts.specs.Lemmas.Lists.{all_both}
use Rattle.semver_cuts.specs.declared.cut.Cut.{Cut}
use native.Mathlib.Omega.{arith}
use mathlib.Core.Logic.{inl}
use Rattle.std.specs.Prelude.{ℕ, zero, suc, List, [], ◌∷◌, ◌++◌, drop}
use Rattle.std.specs.declared.cmp.Ordering.{Ordering}
use Rattle.std.specs.Cmp.{IsTotalOrder}
use Rattle.std.specs.List.{AllByRecursion}
use Rattle.semver_cuts.specs.SpanLists.{AreApart}
use Rattle.semver_cuts.specs.Ends.{Ends, IsCutBelow}
use Rattle.semver_cuts.specs.Joined.{AreMerged, AreRising}
use Rattle.semver_cuts.specs.Lemmas.Ends.{below_trans}
use Rattle.semver_cuts.specs.Lemmas.Lists.{all_map, all_middle}

module _ {T : Type 0} (cmp : T → T → Ordering) where
  -- without the first span the others are apart
  pub apart-tail : (span : Ends T) (spans : List (Ends T)) → AreApart cmp (span ∷ spans) → AreApart cmp spans
  apart-tail span spans h1 = grind arith

  pub apart-behind : (front back : List (Ends T)) → AreApart cmp (front ++ back) → AreApart cmp back
  apart-behind [] back apart = apart
  apart-behind (span ∷ front) back apart = apart-behind front back (apart-tail span (front ++ back) apart)

  pub rising-behind : (front back : List (Ends T)) → AreRising cmp (front ++ back) → AreRising cmp back
  rising-behind [] back rising = rising
  rising-behind (span ∷ front) back rising = rising-behind front back rising.1

  -- the others of merged spans are merged, and so are those from a place on
  pub merged-tail : (span : Ends T) (spans : List (Ends T)) → AreMerged cmp (span ∷ spans) → AreMerged cmp spans
  merged-tail span spans are = record { rising = are.rising.1; apart = apart-tail span spans are.apart }

  pub merged-drop : (k : ℕ) (spans : List (Ends T)) → AreMerged cmp spans → AreMerged cmp (drop k spans)
  merged-drop zero spans are = are
  merged-drop (suc k) [] are = are
  merged-drop (suc k) (span ∷ spans) are = merged-drop k spans (merged-tail span spans are)

  -- one more span in front, if all the others begin above where it ends
  pub apart-cons : (span : Ends T) (spans : List (Ends T))
      → AllByRecursion (λ (s : Ends T). IsCutBelow cmp span.upper s.lower) spans → AreApart cmp spans
      → AreApart cmp (span ∷ spans)
  apart-cons span spans h1 h2 = grind arith

module _ {T : Type 0} {cmp : T → T → Ordering} (o : IsTotalOrder cmp) where
  -- spans that begin above a cut, or at it or above, begin above each lesser cut
  pub lowers-above : (low high : Cut T) (spans : List (Ends T)) → IsCutAtMost cmp low high
      → AllByRecursion (λ (s : Ends T). IsCutBelow cmp high s.lower) spans
      → AllByRecursion (λ (s : Ends T). IsCutBelow cmp low s.lower) spans
  lowers-above low high spans le all = all_map _ _ (λ s h. at_most-below o low high s.lower le h) spans all

  pub lowers-from : (low high : Cut T) (spans : List (Ends T)) → IsCutBelow cmp low high
      → AllByRecursion (λ (s : Ends T). IsCutAtMost cmp high s.lower) spans
      → AllByRecursion (λ (s : Ends T). IsCutBelow cmp low s.lower) spans
  lowers-from low high spans lt all = all_map _ _ (λ s h. below-at_most o low high s.lower lt h) spans all

  -- spans that begin above a cut begin at it or above, and end above it
  pub lowers-at_least : (low : Cut T) (spans : List (Ends T))
      → AllByRecursion (λ (s : Ends T). IsCutBelow cmp low s.lower) spans
      → AllByRecursion (λ (s : Ends T). IsCutAtMost cmp low s.lower) spans
  lowers-at_least low spans all = all_map _ _ (λ s h. inl h) spans all

  pub uppers-above : (low : Cut T) (spans : List (Ends T))
      → AllByRecursion (λ (s : Ends T). IsCutBelow cmp low s.lower) spans → AreRising cmp spans
      → AllByRecursion (λ (s : Ends T). IsCutBelow cmp low s.upper) spans
  uppers-above low spans all rising = all_both _ _ _ (λ s p q. below_trans o low s.lower s.upper p q) spans all rising

  -- all spans after one begin above where it ends
  pub apart-above : (span : Ends T) (spans : List (Ends T)) → AreApart cmp (span ∷ spans) → AreRising cmp spans
      → AllByRecursion (λ (s : Ends T). IsCutBelow cmp span.upper s.lower) spans
  apart-above span [] apart rising = tt
  apart-above span (next ∷ spans) apart rising =
      let over = below_trans o span.upper next.lower next.upper apart.0 rising.0 in
      (apart.0, lowers-above span.upper next.upper spans (inl over) (apart-above next spans apart.1 rising.1))

  -- and all spans before one end below where it begins
  pub apart-before : (front back : List (Ends T)) (span : Ends T) → AreApart cmp (front ++ span ∷ back)
      → AreRising cmp (front ++ span ∷ back)
      → AllByRecursion (λ (s : Ends T). IsCutBelow cmp s.upper span.lower) front
  apart-before [] back span apart rising = tt
  apart-before (first ∷ front) back span apart rising =
      let Above : Ends T → Type 0 = λ s. IsCutBelow cmp first.upper s.lower in (
        all_middle Above front back span (apart-above first (front ++ span ∷ back) apart rising.1),
        apart-before front back span (apart-tail cmp first (front ++ span ∷ back) apart) rising.1,
      )
