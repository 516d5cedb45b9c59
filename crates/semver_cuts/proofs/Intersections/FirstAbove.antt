-- Merged spans before one that ends at or below a cut do so too, and those after one that ends above it.
use native.Mathlib.Omega.{arith}
use Rattle.semver_cuts.specs.Lemmas.Apart.{lowers-above, uppers-above}
use Rattle.std.proofs.Common.{◌≡◌, ◌<◌, ◌+◌, ℕ, List, [], ◌∷◌, ◌++◌, length, take, drop, ap, subst, sym, ◌∙◌}
use Rattle.std.proofs.Common.{Ordering}
use Rattle.std.proofs.lemmas.List.{drop_more, take_more, take-append-drop}
use Rattle.std.specs.Cmp.{IsTotalOrder}
use Rattle.std.specs.List.{AllByRecursion}
use Rattle.semver_cuts.specs.declared.cut.Cut.{Cut}
use Rattle.semver_cuts.specs.Ends.{Ends, IsCutAtMost, IsCutBelow}
use Rattle.semver_cuts.specs.Joined.{AreMerged, AreRising}
use Rattle.semver_cuts.specs.SpanLists.{AreApart}
use Rattle.semver_cuts.specs.Lemmas.Apart.{apart-above, apart-before, merged-drop}
use Rattle.semver_cuts.specs.Lemmas.Ends.{below-at_most, below_trans}
use Rattle.semver_cuts.specs.Lemmas.Lists.{all_map, all_push}

module _ {T : Type 0} {cmp : T → T → Ordering} (o : IsTotalOrder cmp) (spans : List (Ends T))
    (are : AreMerged cmp spans)
    (cut : Cut T) (place : ℕ) (span : Ends T) (within : place < length spans)
    (here : drop place spans ≡ span ∷ drop (place + 1) spans) where
  parts : spans ≡ take place spans ++ span ∷ drop (place + 1) spans
  parts = sym (take-append-drop place spans) ∙ ap (λ l. take place spans ++ l) here

  one_more : take (place + 1) spans ≡ take place spans ++ span ∷ []
  one_more = let e = drop_more spans place span within in let f = take_more spans place span within in cc

  whole : AreMerged cmp (span ∷ drop (place + 1) spans)
  whole = subst (AreMerged cmp) here (merged-drop cmp place spans are)

  -- a span that ends at or below the cut: so do all those before it
  pub ended-before : IsCutAtMost cmp span.upper cut
      → AllByRecursion (λ (s : Ends T). IsCutAtMost cmp s.upper cut) (take (place + 1) spans)
  ended-before h =
      let before = apart-before o (take place spans) (drop (place + 1) spans) span
      (subst (AreApart cmp) parts are.apart) (subst (AreRising cmp) parts are.rising) in
      let ended : AllByRecursion (λ (s : Ends T). IsCutAtMost cmp s.upper cut) (take place spans) = all_map _ _
      (λ s p. grind (arith, whole.rising.0, below_trans o, below-at_most o)) (take place spans) before in
      grind (arith, one_more, all_push (λ (s : Ends T). IsCutAtMost cmp s.upper cut) (take place spans) span)

  -- a span that ends above the cut: so do all those after it
  pub above-from : IsCutBelow cmp cut span.upper
      → AllByRecursion (λ (s : Ends T). IsCutBelow cmp cut s.upper) (drop place spans)
  above-from h = grind (arith, here, whole, apart-above o span, lowers-above o cut span.upper, uppers-above o cut)
