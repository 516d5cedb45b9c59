-- Spans that are apart are the greatest spans of their cuts: the end of each lies in none of them.
use Rattle.semver_cuts.proofs.Walks.{all-from_first}
use Rattle.semver_cuts.specs.Lemmas.Apart.{uppers-above}
use native.Mathlib.Omega.{arith}
use Rattle.std.proofs.Common.{List, [], ◌∷◌, Ordering, inl, ⊎_elim}
use Rattle.std.specs.List.{AllByRecursion}
use Rattle.std.specs.Cmp.{IsTotalOrder}
use Rattle.semver_cuts.specs.declared.cut.Cut.{Cut}
use Rattle.semver_cuts.specs.SpanLists.{AreApart, IsInSome, IsWithin}
use Rattle.semver_cuts.specs.Ends.{Ends, IsCutBelow, IsInSpan}
use Rattle.semver_cuts.specs.Joined.{AreRising}
use Rattle.semver_cuts.specs.Lemmas.Apart.{apart-above, apart-tail}
use Rattle.semver_cuts.specs.Lemmas.Ends.{at_most-below, at_most-or-below, at_most_refl, at_most_trans}
use Rattle.semver_cuts.specs.Lemmas.Ends.{below-not-at_most, below_irrefl, below_trans}
use Rattle.semver_cuts.specs.Lemmas.InSome.{some-above}
use Rattle.semver_cuts.specs.Lemmas.Lists.{all_both, all_map}

module _ {T : Type 0} (cmp : T → T → Ordering) where
  -- no cut lies in spans that all begin above it
  pub none-above : IsTotalOrder cmp → (cut : Cut T) (spans : List (Ends T))
      → AllByRecursion (λ (s : Ends T). IsCutBelow cmp cut s.lower) spans → ¬ (IsInSome cmp spans cut)
  none-above o cut spans above is = below_irrefl o cut (some-above o cut cut spans above is)

  -- each cut of an element of a list lies in some span of the list
  pub each-in_some : (spans : List (Ends T))
      → AllByRecursion (λ (s : Ends T). (cut : Cut T) → IsInSpan cmp s cut → IsInSome cmp spans cut) spans
  each-in_some [] = tt
  each-in_some (span ∷ spans) = grind (arith, all_map, each-in_some spans)

module _ {T : Type 0} {cmp : T → T → Ordering} (o : IsTotalOrder cmp) where
  past_end : (span : Ends T) (cut : Cut T) → IsCutBelow cmp span.upper cut → ¬ (IsInSpan cmp span cut)
  past_end span cut h is = below-not-at_most o span.upper cut h (inl is.upper)

  -- the upper end of each span lies in none of them
  pub ends-free : (spans : List (Ends T)) → AreApart cmp spans → AreRising cmp spans
      → AllByRecursion (λ (s : Ends T). ¬ (IsInSome cmp spans s.upper)) spans
  ends-free [] apart rising = tt
  ends-free (span ∷ spans) apart rising =
      let above = apart-above o span spans apart rising.1 in (
        grind (arith, none-above cmp o, below_irrefl o),
        all_both _ _ _ (λ s free h. ⊎_elim (past_end span s.upper h) free) spans
            (ends-free spans (apart-tail cmp span spans apart) rising.1)
            (uppers-above o span.upper spans above rising.1),
      )

  -- between a cut that lies in one of them and the lower end of a later one, some cut lies in none
  abbrev pub HasGapBelow : List (Ends T) → Ends T → Type 0
  HasGapBelow spans span = (cut : Cut T) → IsCutBelow cmp cut span.lower → IsInSome cmp spans cut
      → (gap : Cut T) × IsCutBelow cmp cut gap × IsCutBelow cmp gap span.lower × ¬ (IsInSome cmp spans gap)

  pub gaps-below : (spans : List (Ends T)) → AreApart cmp spans → AreRising cmp spans
      → AllByRecursion (HasGapBelow spans) spans
  gaps-below [] apart rising = tt
  gaps-below (span ∷ spans) apart rising =
      let above = apart-above o span spans apart rising.1 in (
        λ cut below is. absurd (below-not-at_most o cut span.lower below
            (all-from_first o span spans cut (record { rising = rising; apart = apart }) is)),
        all_both _ _ _ (λ s gap h cut below. ⊎_elim
            (λ here. (span.upper, here.upper, h, (ends-free (span ∷ spans) apart rising).0))
            (λ there. let g = gap cut below there in (
              g.0,
              g.1,
              g.2,
              ⊎_elim (past_end span g.0 (below_trans o span.upper cut
                  g.0 (some-above o cut span.upper spans above there) g.1)) g.3,
            )))
            spans (gaps-below spans (apart-tail cmp span spans apart) rising.1) above,
      )

  -- so if all cuts of a span that contains one of them lie in some of them, it is no wider
  pub greatest : (spans : List (Ends T)) (span wider : Ends T) → IsCutBelow cmp span.lower span.upper
      → ¬ (IsInSome cmp spans span.upper) → HasGapBelow spans span
      → ((cut : Cut T) → IsInSpan cmp wider cut → IsInSome cmp spans cut) → IsWithin cmp span wider
      → IsWithin cmp wider span
  greatest spans span wider rising free gap inside within cut is =
      let lower = within span.lower (record { lower = at_most_refl o span.lower; upper = rising }) in record {
        lower = ⊎_elim (λ h. h) (λ below. let g = gap cut below (inside cut is) in absurd
            (grind (arith, inside g.0, at_most_trans o wider.lower cut g.0, below_trans o g.0 span.lower wider.upper)))
            (at_most-or-below o span.lower cut);
        upper = ⊎_elim (λ past. absurd (grind (
          arith,
          inside span.upper,
          at_most_trans o wider.lower span.lower
              span.upper,
          at_most-below o span.upper cut wider.upper,
        ))) (λ h. h) (at_most-or-below o span.upper cut);
      }
