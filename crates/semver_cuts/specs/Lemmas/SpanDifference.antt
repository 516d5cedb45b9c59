-- The part of one span outside another: when there is a piece below and above, and which cuts lie in the pieces.
use native.Mathlib.Omega.{arith}
use Rattle.std.specs.Prelude.{if◌then◌else◌, ◌≡◌, ◌⊎◌, ◌↔◌, [], ◌∷◌, ◌++◌, true}
use mathlib.Core.Path.{ap}
use mathlib.Core.Logic.{inl, inr}
use Rattle.std.specs.declared.cmp.Ordering.{Ordering}
use Rattle.std.specs.Cmp.{IsTotalOrder}
use Rattle.semver_cuts.specs.declared.cut.Cut.{Cut}
use Rattle.semver_cuts.specs.Ends.{Ends, IsCutBelow, IsInSpan, span_between}
use Rattle.semver_cuts.specs.SpanLists.{IsInSome}
use Rattle.semver_cuts.specs.CommonSpans.{common_of}
use Rattle.semver_cuts.specs.SpanDifference.{piece_above, piece_below, span_if_any, spans_share}
use Rattle.semver_cuts.specs.Lemmas.Ends.{at_most-or-below, below-at_most, below-from_lt}
use Rattle.semver_cuts.specs.Lemmas.Ends.{below_trans}
use Rattle.semver_cuts.specs.Lemmas.InSome.{in_some-either, in_some-left, in_some-right}
use Rattle.semver_cuts.specs.Lemmas.TwoSpans.{common_ends-hold, shares-ends}

module _ {T : Type 0} (cmp : T → T → Ordering) (one other : Ends T) where
  -- the two share a cut if they have a common span
  pub share-from_some : (span : Ends T) → span ∷ [] ≡ common_of cmp one other → spans_share cmp one other ≡ true
  share-from_some span e = grind arith

  -- the piece below, if they share a cut
  pub below-shared : spans_share cmp one other ≡ true
      → piece_below cmp one other ≡ span_if_any cmp one.lower other.lower
  below-shared share = ap (λ r. if r then span_if_any cmp one.lower other.lower else one ∷ []) share

  -- and the piece above
  pub above-shared : spans_share cmp one other ≡ true
      → piece_above cmp one other ≡ span_if_any cmp other.upper one.upper
  above-shared share = ap (λ r. if r then span_if_any cmp other.upper one.upper else []) share

module _ {T : Type 0} {cmp : T → T → Ordering} (o : IsTotalOrder cmp) where
  -- a cut lies in the span between two cuts, if there is one, exactly if it lies between them
  pub if_any-cuts : (lower upper cut : Cut T)
      → IsInSome cmp (span_if_any cmp lower upper) cut ↔ IsInSpan cmp (span_between lower upper) cut
  if_any-cuts lower upper cut = grind arith

  module _ (one other : Ends T) (held : IsCutBelow cmp one.lower one.upper)
      (held' : IsCutBelow cmp other.lower other.upper)
      (share : spans_share cmp one other ≡ true) (cut : Cut T) where
    shared : IsCutBelow cmp one.lower other.upper × IsCutBelow cmp other.lower one.upper
    shared = (shares-ends o one other held held').0 ((common_ends-hold o one other).1 (below-from_lt cmp _ _ share))

    left-below : IsInSpan cmp (span_between one.lower other.lower) cut → IsInSpan cmp one cut × ¬ IsInSpan cmp other cut
    left-below is = grind (arith, below_trans o cut other.lower one.upper is.upper shared.1)

    left-above : IsInSpan cmp (span_between other.upper one.upper) cut → IsInSpan cmp one cut × ¬ IsInSpan cmp other cut
    left-above is = grind (arith, below-at_most o one.lower other.upper cut shared.0 is.lower)

    in-pieces : IsInSpan cmp one cut → ¬ IsInSpan cmp other cut
        → IsInSpan cmp (span_between one.lower other.lower) cut ⊎ IsInSpan cmp (span_between other.upper one.upper) cut
    in-pieces is out = grind (arith, at_most-or-below)

    -- a cut lies in one of the two pieces exactly if it lies in the first span and not in the second
    pub pieces-cuts : IsInSome cmp (span_if_any cmp one.lower other.lower ++ span_if_any cmp other.upper one.upper) cut
        ↔ (IsInSpan cmp one cut × ¬ IsInSpan cmp other cut)
    pieces-cuts =
        let low = if_any-cuts one.lower other.lower cut in let high = if_any-cuts other.upper one.upper cut in (
          λ is. elim (in_some-either cmp cut _ _ is) [
            | inl l ↦ left-below (low.0 l)
            | inr r ↦ left-above (high.0 r)
          ],
          λ both. elim (in-pieces both.0 both.1) [
            | inl l ↦ in_some-left cmp cut _ _ (low.1 l)
            | inr r ↦ in_some-right cmp cut _ _ (high.1 r)
          ],
        )
