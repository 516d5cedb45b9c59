-- Cuts in some span of a list: of two lists one after the other, and found or not found.
use native.Mathlib.Omega.{arith}
use Rattle.std.specs.Prelude.{◌≡◌, ◌⊎◌, List, [], ◌∷◌, ◌++◌, refl}
use mathlib.Core.Logic.{inl, inr}
use Rattle.std.specs.declared.cmp.Ordering.{Ordering}
use Rattle.std.specs.Cmp.{IsTotalOrder}
use Rattle.std.specs.List.{AllByRecursion}
use Rattle.semver_cuts.specs.declared.cut.Cut.{Cut}
use Rattle.semver_cuts.specs.Ends.{Ends, HoldsCut, IsCutBelow, IsInSpan}
use Rattle.semver_cuts.specs.SpanLists.{IsInSome}
use Rattle.semver_cuts.specs.Lemmas.Ends.{at_most-or-below, below-at_most, below-not-at_most}
use Rattle.semver_cuts.specs.Lemmas.Lists.{any-either, any-left, any-right}

module _ {T : Type 0} (cmp : T → T → Ordering) (cut : Cut T) where
  -- if it lies in a span of the first of two lists, it does in the two together
  pub in_some-left : (ones others : List (Ends T)) → IsInSome cmp ones cut → IsInSome cmp (ones ++ others) cut
  in_some-left ones others is = any-left (λ (span : Ends T). IsInSpan cmp span cut) ones others is

  -- if it lies in a span of the second, it does too
  pub in_some-right : (ones others : List (Ends T)) → IsInSome cmp others cut → IsInSome cmp (ones ++ others) cut
  in_some-right ones others is = any-right (λ (span : Ends T). IsInSpan cmp span cut) ones others is

  -- if it lies in a span of the two together, it does in one of the two
  pub in_some-either : (ones others : List (Ends T)) → IsInSome cmp (ones ++ others) cut
      → IsInSome cmp ones cut ⊎ IsInSome cmp others cut
  in_some-either ones others is = any-either (λ (span : Ends T). IsInSpan cmp span cut) ones others is

module _ {T : Type 0} (cmp : T → T → Ordering) where
  -- if each span contains a cut, and no cut lies in any, there is no span
  pub none_held : (spans : List (Ends T)) → AllByRecursion (HoldsCut cmp) spans
      → ((cut : Cut T) → ¬ IsInSome cmp spans cut) → spans ≡ []
  none_held [] held none = refl
  none_held (span ∷ spans) held none = absurd (none held.0.0 (inl held.0.1))

module _ {T : Type 0} {cmp : T → T → Ordering} (o : IsTotalOrder cmp) (cut : Cut T) where
  -- a cut lies in a span or it does not
  pub in_span-or_not : (span : Ends T) → IsInSpan cmp span cut ⊎ (¬ IsInSpan cmp span cut)
  in_span-or_not span = grind (arith, at_most-or-below, below-not-at_most)

  -- if spans all begin above a cut, the cuts in them are above it
  pub some-above : (bound : Cut T) (spans : List (Ends T))
      → AllByRecursion (λ (s : Ends T). IsCutBelow cmp bound s.lower) spans → IsInSome cmp spans cut → IsCutBelow cmp
      bound cut
  some-above bound [] above is = absurd is
  some-above bound (span ∷ spans) above (inl here) = below-at_most o bound span.lower cut above.0 here.lower
  some-above bound (span ∷ spans) above (inr there) = some-above bound spans above.1 there

  -- and it lies in some span of a list, or in none
  pub in_some-or_not : (spans : List (Ends T)) → IsInSome cmp spans cut ⊎ (¬ IsInSome cmp spans cut)
  in_some-or_not [] = inr (λ is. is)
  in_some-or_not (span ∷ spans) = grind (arith, in_span-or_not, in_some-or_not spans)
