-- The loop of `in_order`: each span is added with its place.
use native.Mathlib.Omega.{arith}
use Rattle.std.proofs.Common.{◌≡◌, ℕ, ◌+◌, ◌<◌, ◌≤◌, List, [], ◌∷◌, ◌++◌, Ordering, drop, get_or, length}
use Rattle.std.proofs.Common.{append_assoc}
use Rattle.std.specs.List.Sorted.{IsPermutation}
use Rattle.std.proofs.lemmas.List.{append-nil, drop_all}
use Rattle.semver_cuts.specs.declared.cut.Cut.{Cut}
use Rattle.semver_cuts.specs.Ends.{Ends, IsCutBelow, span_between}
use Rattle.semver_cuts.specs.Joined.{AreRising}
use Rattle.semver_cuts.specs.Private.Placed.{PlacedSpan, placed_from}
use Rattle.semver_cuts.proofs.LoopSteps.{here}

module _ {T : Type 0} (cmp : T → T → Ordering) where
  -- one more span
  pub placed-next : (spans : List (Ends T)) (k : ℕ) (span : Ends T) (old new total : List (PlacedSpan T))
      → k < length spans → span ≡ get_or spans k span → new ≡ old ++ record { span = span; place = k } ∷ []
      → old ++ placed_from k (drop k spans) ≡ total → new ++ placed_from (k + 1) (drop (k + 1) spans) ≡ total
  placed-next spans k span old new total low at more before = grind (arith, append_assoc, here)

  -- one more span begins below where it ends
  pub placed-rising : (spans : List (Ends T)) (k : ℕ) (span : Ends T) (lower upper : Cut T) → k < length spans
      → span ≡ get_or spans k span → span ≡ span_between lower upper → IsCutBelow cmp lower upper
      → AreRising cmp (drop (k + 1) spans) → AreRising cmp (drop k spans)
  placed-rising spans k span lower upper low at e below h = grind (arith, here)

  -- the sort keeps the spans
  pub placed-moved : (spans : List (Ends T)) (k : ℕ) (items moved : List (PlacedSpan T)) → length spans ≤ k
      → items ++ placed_from k (drop k spans) ≡ placed_from 0 spans → IsPermutation items moved
      → IsPermutation (placed_from 0 spans) moved
  placed-moved spans k items moved done all moves = grind (arith, append-nil, drop_all)
