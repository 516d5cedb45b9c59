-- A span of a list with its place in it, and the order of such spans: by lower ends, then by places.
use Rattle.std.specs.Prelude.{ℕ, ◌+◌, List, [], ◌∷◌, map}
use Rattle.std.specs.List.{AllByRecursion}
use Rattle.std.specs.List.Sorted.{IsPermutation, IsSorted}
use Rattle.std.specs.Ordering.{nat_cmp, on, then_cmp}
use Rattle.std.specs.declared.cmp.Ordering.{Ordering}
use Rattle.semver_cuts.specs.Cut.{cut_cmp}
use Rattle.semver_cuts.specs.Ends.{Ends}
use Rattle.semver_cuts.specs.Joined.{AreJoined, AreRising}
use Rattle.semver_cuts.specs.Places.{AreWithin, span_of_places}

-- a span and its place
pub record PlacedSpan (T : Type 0) : Type 0 where
  pub span : Ends T
  pub place : ℕ

-- by the lower end, then by the place
abbrev pub placed_cmp : {T : Type 0} → (T → T → Ordering) → PlacedSpan T → PlacedSpan T → Ordering
placed_cmp {T} cmp =
    then_cmp (on (λ (p : PlacedSpan T). p.span.lower) (cut_cmp cmp)) (on (λ (p : PlacedSpan T). p.place) nat_cmp)

-- each span of a list with its place, counted from this number on
abbrev pub placed_from : {T : Type 0} → ℕ → List (Ends T) → List (PlacedSpan T)
placed_from n [] = []
placed_from n (span ∷ spans) = record { span = span; place = n } ∷ placed_from (n + 1) spans

-- all spans of a list, sorted, where each contains a cut
pub record AreSorted {T : Type 0} (cmp : T → T → Ordering) (spans : List (Ends T)) (order : List (PlacedSpan T))
    : Type 0 where
  pub rising : AreRising cmp spans
  pub same : IsPermutation (placed_from 0 spans) order
  pub sorted : IsSorted (placed_cmp cmp) order

-- the list is joined to the spans at these pairs of places
pub record AreJoinedAt {T : Type 0} (cmp : T → T → Ordering) (spans : List (Ends T)) (pairs : List (ℕ × ℕ))
    : Type 0 where
  pub within : AllByRecursion (AreWithin spans) pairs
  pub joined : AreJoined cmp spans (map (span_of_places spans) pairs)
