-- The part of one list of spans outside another: its cuts, its ends, when it is empty, and how it adds up.
use native.Mathlib.Omega.{arith}
use Rattle.std.specs.Prelude.{◌≡◌, ◌⊎◌, ◌↔◌, List, [], ◌∷◌}
use mathlib.Core.Path.{sym, subst}
use mathlib.Core.Logic.{inl, inr}
use Rattle.std.specs.declared.cmp.Ordering.{Ordering}
use Rattle.std.specs.Cmp.{IsTotalOrder}
use Rattle.std.specs.List.{AllByRecursion}
use Rattle.semver_cuts.specs.declared.cut.Cut.{Cut}
use Rattle.semver_cuts.specs.Ends.{Ends, HoldsCut, IsInSpan}
use Rattle.semver_cuts.specs.SpanLists.{IsInSome}
use Rattle.semver_cuts.specs.CommonSpans.{common_spans}
use Rattle.semver_cuts.specs.Difference.{AreDifference, IsPiece, IsPieceLower, IsPieceUpper}
use Rattle.semver_cuts.specs.Lemmas.CommonSpans.{common_spans-cuts}
use Rattle.semver_cuts.specs.Lemmas.InSome.{in_some-either, in_some-left, in_some-or_not, in_some-right, none_held}
use Rattle.semver_cuts.specs.Lemmas.Lists.{all-always, all-append}
use Rattle.semver_cuts.specs.Lemmas.Lists.{all_map}
use Rattle.semver_cuts.specs.Lemmas.ChosenEnds.{chosen-of}

module _ {T : Type 0} (cmp : T → T → Ordering) where
  -- ---- cuts

  pieces-left : (others : List (Ends T)) (one : Ends T) (pieces : List (Ends T)) (cut : Cut T)
      → AllByRecursion (IsPiece cmp others one) pieces → IsInSome cmp pieces cut
      → IsInSpan cmp one cut × ¬ IsInSome cmp others cut
  pieces-left others one [] cut each is = absurd is
  pieces-left others one (piece ∷ pieces) cut each (inl here) = each.0.left cut here
  pieces-left others one (piece ∷ pieces) cut each (inr there) = pieces-left others one pieces cut each.1 there

  of-difference : (ones others spans : List (Ends T)) (cut : Cut T) → AreDifference cmp ones others spans
      → IsInSome cmp spans cut → IsInSome cmp ones cut × ¬ IsInSome cmp others cut
  of-difference [] others spans cut are is = grind arith
  of-difference (one ∷ ones) others spans cut are is = grind
      (arith, in_some-either cmp cut, pieces-left others one, of-difference ones others are.1 cut are.4)

  in-difference : (ones others spans : List (Ends T)) (cut : Cut T) → AreDifference cmp ones others spans
      → IsInSome cmp ones cut → ¬ IsInSome cmp others cut → IsInSome cmp spans cut
  in-difference [] others spans cut are is out = absurd is
  in-difference (one ∷ ones) others spans cut are (inl here) out = grind (arith, in_some-left cmp cut)
  in-difference (one ∷ ones) others spans cut are (inr there) out =
      let left = in-difference ones others are.1 cut are.4 there out in grind (arith, in_some-right cmp cut)

  -- a cut lies in the difference exactly if it lies in a span of the first list and in none of the second
  pub difference-cuts : (ones others spans : List (Ends T)) → AreDifference cmp ones others spans → (cut : Cut T)
      → IsInSome cmp spans cut ↔ (IsInSome cmp ones cut × ¬ IsInSome cmp others cut)
  difference-cuts ones others spans are cut = grind (arith, of-difference, in-difference)

  -- ---- each span of the difference

  -- what holds of each piece of each span holds of each span of the difference
  pub difference-each : (Q : Ends T → Type 0) (others : List (Ends T))
      → (P : Ends T → Type 0) → ((one piece : Ends T) → P one → IsPiece cmp others one piece → Q piece)
      → (ones spans : List (Ends T)) → AllByRecursion P ones → AreDifference cmp ones others spans
      → AllByRecursion Q spans
  difference-each Q others P from [] spans all are = subst (AllByRecursion Q) (sym are) tt
  difference-each Q others P from (one ∷ ones) spans all are =
      subst (AllByRecursion Q) (sym are.2) (all-append Q are.0 are.1
      (all_map (IsPiece cmp others one) Q (λ piece is. from one piece all.0 is) are.0 are.3.each)
      (difference-each Q others P from ones are.1 all.1 are.4))

  -- each span of the difference holds a cut
  pub difference-hold : (ones others spans : List (Ends T)) → AreDifference cmp ones others spans
      → AllByRecursion (HoldsCut cmp) spans
  difference-hold ones others spans are =
      difference-each (HoldsCut cmp) others (λ one. Unit {0}) (λ one piece held is. is.holds) ones spans
      (all-always (λ (one : Ends T). Unit {0}) (λ one. tt) ones) are

  lower-is : (P : Cut T → Type 0) (others : List (Ends T)) (one : Ends T) (cut : Cut T) → P one.lower
      → AllByRecursion (λ (other : Ends T). P other.upper) others → IsPieceLower cmp others one cut → P cut
  lower-is P others one cut p all (inl own) = subst P (sym own) p
  lower-is P others one cut p all (inr inner) = chosen-of P inner.1 all

  upper-is : (P : Cut T → Type 0) (others : List (Ends T)) (one : Ends T) (cut : Cut T) → P one.upper
      → AllByRecursion (λ (other : Ends T). P other.lower) others → IsPieceUpper cmp others one cut → P cut
  upper-is P others one cut p all (inl own) = subst P (sym own) p
  upper-is P others one cut p all (inr inner) = chosen-of P inner.1 all

  -- what holds of all ends of the first list, and of the opposite ends of the second, holds of those of the difference
  pub difference-ends : (Lower Upper : Cut T → Type 0) (ones others spans : List (Ends T))
      → AllByRecursion (λ (span : Ends T). Lower span.lower × Upper span.upper) ones
      → AllByRecursion (λ (span : Ends T). Upper span.lower × Lower span.upper) others
      → AreDifference cmp ones others spans
      → AllByRecursion (λ (span : Ends T). Lower span.lower × Upper span.upper) spans
  difference-ends Lower Upper ones others spans all all' are = difference-each _ others _
      (λ one piece p is. (
        lower-is Lower others one piece.lower p.0 (all_map _ _ (λ other q. q.1) others all') is.lower,
        upper-is Upper others one piece.upper p.1 (all_map _ _ (λ other q. q.0) others all') is.upper,
      )) ones spans all are

module _ {T : Type 0} {cmp : T → T → Ordering} (o : IsTotalOrder cmp) where
  -- the difference is empty exactly if each cut of the first list lies in some span of the second
  pub difference-covered : (ones others spans : List (Ends T)) → AreDifference cmp ones others spans
      → (spans ≡ []) ↔ ((cut : Cut T) → IsInSome cmp ones cut → IsInSome cmp others cut)
  difference-covered ones others spans are = (
    λ none cut is. grind
        (arith, in_some-or_not o cut others, in-difference cmp ones others spans cut are is),
    λ covered. none_held cmp
        spans (difference-hold cmp ones others spans are) (λ cut is. grind
        (arith, of-difference cmp ones others spans cut are is)),
  )

-- ---- the intersection and the difference

module _ {T : Type 0} {cmp : T → T → Ordering} (o : IsTotalOrder cmp) (ones others spans : List (Ends T))
    (are : AreDifference cmp ones others spans) (cut : Cut T) where
  -- no cut lies in both
  pub common_difference-disjoint : IsInSome cmp (common_spans cmp ones others) cut → ¬ IsInSome cmp spans cut
  common_difference-disjoint common left =
      (of-difference cmp ones others spans cut are left).1 ((common_spans-cuts o ones others cut).0 common).1

  parted : IsInSome cmp ones cut → IsInSome cmp (common_spans cmp ones others) cut ⊎ IsInSome cmp spans cut
  parted is = grind (arith, in_some-or_not o cut, common_spans-cuts o, in-difference cmp)

  -- and each cut of the first list lies in one of the two
  pub common_difference-together : (IsInSome cmp (common_spans cmp ones others) cut ⊎ IsInSome cmp spans cut)
      ↔ IsInSome cmp ones cut
  common_difference-together = grind (arith, common_spans-cuts o ones others cut, parted, of-difference cmp)
