-- Less and at most of cuts, wherever the order of the values is total, and the tests of them in a program.
use native.Mathlib.Omega.{arith}
use Rattle.std.specs.Prelude.{◌≡◌, ◌⊎◌, ◌↔◌, Bool, IsTrue, true, false}
use mathlib.Core.Path.{ap, sym, ◌∙◌}
use mathlib.Core.Logic.{inl, inr}
use Rattle.std.specs.declared.cmp.Ordering.{Ordering}
use Rattle.std.specs.declared.cmp.Ordering.TheVariants.{Equal}
use Rattle.std.specs.Ordering.{is_lt, is_le}
use Rattle.std.specs.Cmp.{IsEquivalence, IsTotalOrder, alike_right, and_equiv}
use Rattle.std.specs.Cmp.{eq_by_cmp_equiv, on_equiv, tied_back, tied_itself}
use Rattle.semver_cuts.specs.declared.cut.Cut.{Cut}
use Rattle.semver_cuts.specs.Cut.{cut_cmp}
use Rattle.semver_cuts.specs.Lemmas.CutOrder.{cut_total}
use Rattle.semver_cuts.specs.Ends.{AreSameEnds, Ends, IsCutAtMost, IsCutBelow, IsInSpan, are_same_ends}

module _ {T : Type 0} {cmp : T → T → Ordering} (o : IsTotalOrder cmp) where
  -- a cut is the same cut as itself
  pub cut_cmp-refl : (c : Cut T) → cut_cmp cmp c c ≡ Equal
  cut_cmp-refl c = tied_itself (cut_total o) c

  -- the same cut either way round
  pub cut_cmp-equal_back : (c d : Cut T) → cut_cmp cmp c d ≡ Equal → cut_cmp cmp d c ≡ Equal
  cut_cmp-equal_back c d p = tied_back (cut_total o) c d p

  -- the same cut on the right compares alike
  pub cut_cmp-equal_right : (c d e : Cut T) → cut_cmp cmp c d ≡ Equal → cut_cmp cmp e c ≡ cut_cmp cmp e d
  cut_cmp-equal_right c d e p = alike_right (cut_total o) c d e p

  -- no cut is below itself
  pub below_irrefl : (c : Cut T) → ¬ (IsCutBelow cmp c c)
  below_irrefl c p = grind (arith, cut_cmp-refl)

  -- below is transitive
  pub below_trans : (c d e : Cut T) → IsCutBelow cmp c d → IsCutBelow cmp d e → IsCutBelow cmp c e
  below_trans c d e p q = (cut_total o).trans c d e p q

  -- each cut is at most itself
  pub at_most_refl : (c : Cut T) → IsCutAtMost cmp c c
  at_most_refl c = inr (cut_cmp-refl c)

  -- below one that is at most a third is below the third
  pub below-at_most : (c d e : Cut T) → IsCutBelow cmp c d → IsCutAtMost cmp d e → IsCutBelow cmp c e
  below-at_most c d e h1 (inl h2) = below_trans c d e h1 h2
  below-at_most c d e h1 (inr h2) = sym (cut_cmp-equal_right d e c h2) ∙ h1

  -- at most one that is below a third is below the third
  pub at_most-below : (c d e : Cut T) → IsCutAtMost cmp c d → IsCutBelow cmp d e → IsCutBelow cmp c e
  at_most-below c d e h1 h2 = grind arith

  -- at most is transitive
  pub at_most_trans : (c d e : Cut T) → IsCutAtMost cmp c d → IsCutAtMost cmp d e → IsCutAtMost cmp c e
  at_most_trans c d e (inl h1) h2 = inl (below-at_most c d e h1 h2)
  at_most_trans c d e (inr h1) (inl h2) = inl (at_most-below c d e (inr h1) h2)
  at_most_trans c d e (inr h1) (inr h2) = inr (sym (cut_cmp-equal_right d e c h2) ∙ h1)

  -- of two cuts one is at most the other, or the other is below it
  pub at_most-or-below : (c d : Cut T) → IsCutAtMost cmp c d ⊎ IsCutBelow cmp d c
  at_most-or-below c d = grind arith

  -- and not both
  pub below-not-at_most : (c d : Cut T) → IsCutBelow cmp c d → ¬ (IsCutAtMost cmp d c)
  below-not-at_most c d p q = below_irrefl c (below-at_most c d c p q)

  -- two cuts of which each is at most the other are the same
  pub at_most-both : (c d : Cut T) → IsCutAtMost cmp c d → IsCutAtMost cmp d c → cut_cmp cmp c d ≡ Equal
  at_most-both c d h1 h2 = grind arith

  -- what follows if the test `c < d` is false
  pub at_most-from_not_lt : (c d : Cut T) → is_lt (cut_cmp cmp c d) ≡ false → IsCutAtMost cmp d c
  at_most-from_not_lt c d h = grind arith

  -- what follows if the test `c <= d` is false
  pub below-from_not_le : (c d : Cut T) → is_le (cut_cmp cmp c d) ≡ false → IsCutBelow cmp d c
  below-from_not_le c d h = grind arith

  -- the test whether two spans have the same two ends is an equivalence
  pub are_same_ends-equiv : IsEquivalence (are_same_ends cmp)
  are_same_ends-equiv = search (arith, and_equiv, on_equiv, eq_by_cmp_equiv, cut_total)

  -- spans of the same two ends the other way round
  pub same_ends-back : (one other : Ends T) → AreSameEnds cmp one other → AreSameEnds cmp other one
  same_ends-back one other same = grind arith

  -- the same cuts lie in spans of the same two ends
  pub same_ends-in_span : (one other : Ends T) (cut : Cut T) → AreSameEnds cmp one other → IsInSpan cmp one cut
      → IsInSpan cmp other cut
  same_ends-in_span one other cut same inside = grind (arith, cut_cmp-equal_back, at_most_trans, below-at_most)

module _ {T : Type 0} (cmp : T → T → Ordering) where
  -- what follows if the test `c < d` is true
  pub below-from_lt : (c d : Cut T) → is_lt (cut_cmp cmp c d) ≡ true → IsCutBelow cmp c d
  below-from_lt c d h = grind arith

  -- what follows if the test `c <= d` is true
  pub at_most-from_le : (c d : Cut T) → is_le (cut_cmp cmp c d) ≡ true → IsCutAtMost cmp c d
  at_most-from_le c d h = grind arith

  -- the test `c < d` is true if `c` is below `d`
  pub lt-from_below : (c d : Cut T) → IsCutBelow cmp c d → is_lt (cut_cmp cmp c d) ≡ true
  lt-from_below c d p = ap is_lt p

  -- and the test `c <= d` is true if `c` is at most `d`
  pub le-from_at_most : (c d : Cut T) → IsCutAtMost cmp c d → is_le (cut_cmp cmp c d) ≡ true
  le-from_at_most c d h1 = grind arith

  -- the test of the same two ends is true exactly if they are the same
  pub span_same : (one other : Ends T) (r : Bool) → r ≡ are_same_ends cmp one other
      → IsTrue r ↔ AreSameEnds cmp one other
  span_same one other r e = grind arith
