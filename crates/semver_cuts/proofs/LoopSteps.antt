-- A step of a loop along a list: the elements that are left, and what follows from a test that is false.
use native.Mathlib.Omega.{arith}
use Rattle.std.proofs.Common.{◌≡◌, ℕ, ◌+◌, ◌<◌, List, ◌∷◌, Ordering, true, false}
use Rattle.std.proofs.Common.{drop, get_or, length, sym, ap, ◌∙◌}
use Rattle.std.specs.Ordering.{is_ge}
use Rattle.std.proofs.lemmas.List.{drop_more}
use Rattle.semver_cuts.specs.declared.cut.Cut.{Cut}
use Rattle.semver_cuts.specs.Cut.{cut_cmp}
use Rattle.std.specs.Cmp.{IsTotalOrder}
use Rattle.semver_cuts.specs.Ends.{IsCutAtMost, IsCutBelow}

-- the elements from a place on begin with the element at the place
pub here : {X : Type 0} (xs : List X) (k : ℕ) (x : X) → k < length xs → x ≡ get_or xs k x
    → drop k xs ≡ x ∷ drop (k + 1) xs
here xs k x low at = drop_more xs k x low ∙ ap (λ y. y ∷ drop (k + 1) xs) (sym at)

-- what follows if the test `c >= d` is true
pub at_most-from_ge : {T : Type 0} {cmp : T → T → Ordering} → IsTotalOrder cmp → (c d : Cut T)
    → is_ge (cut_cmp cmp c d) ≡ true → IsCutAtMost cmp d c
at_most-from_ge {cmp = cmp} o c d h = grind arith

module _ {T : Type 0} (cmp : T → T → Ordering) where
  -- what follows if the test `c >= d` is false
  pub below-from_not_ge : (c d : Cut T) → is_ge (cut_cmp cmp c d) ≡ false → IsCutBelow cmp c d
  below-from_not_ge c d e = grind arith
