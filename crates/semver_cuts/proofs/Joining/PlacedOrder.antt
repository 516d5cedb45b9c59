-- Spans in the order of their lower ends: which of two begins later, and which ends later.
use Rattle.std.proofs.Common.{◌≡◌, ◌⊎◌, ℕ, ◌<◌, ◌≤◌, List, [], ◌∷◌, Ordering, Equal, true, false, refl}
use Rattle.std.proofs.Common.{Bool, sym, ◌∙◌, inl, inr, arith, get_or, length, lit<}
use Rattle.std.specs.List.{AllByRecursion}
use Rattle.std.specs.List.Sorted.{IsPermutation, IsSorted}
use Rattle.std.specs.Ordering.{is_lt, nat_cmp, ordering_then}
use Rattle.std.specs.Cmp.{IsTotalOrder}
use Rattle.std.proofs.lemmas.List.Sorted.{IsPermutation-swap}
use Rattle.semver_cuts.specs.declared.cut.Cut.{Cut}
use Rattle.semver_cuts.specs.Cut.{cut_cmp}
use Rattle.semver_cuts.specs.Ends.{IsCutAtMost, IsCutBelow}
use Rattle.semver_cuts.specs.Private.Placed.{PlacedSpan, placed_cmp}
use Rattle.semver_cuts.specs.Lemmas.Ends.{at_most-below, below-at_most, below_trans, cut_cmp-equal_right}

-- ---- tests of numbers

-- the first if the test is true, and else the second
abbrev pub Tested : Bool → Type 0 → Type 0 → Type 0
Tested true P Q = P
Tested false P Q = Q

-- ---- the order

-- no span comes before an earlier one of the list
abbrev pub AreInOrder : {T : Type 0} → (T → T → Ordering) → List (PlacedSpan T) → Type 0
AreInOrder cmp [] = Unit {0}
AreInOrder {T} cmp (first ∷ later) =
    AllByRecursion (λ (next : PlacedSpan T). is_lt (placed_cmp cmp next first) ≡ false) later × AreInOrder cmp later

module _ {T : Type 0} {cmp : T → T → Ordering} (o : IsTotalOrder cmp) where
  -- a later span does not begin lower
  pub lower-later : (first next : PlacedSpan T) → is_lt (placed_cmp cmp next first) ≡ false
      → IsCutAtMost cmp first.span.lower next.span.lower
  lower-later first next h = grind arith

  -- and if it begins at the same cut, its place is not lower
  pub place-later : (first next : PlacedSpan T) → is_lt (placed_cmp cmp next first) ≡ false
      → cut_cmp cmp next.span.lower first.span.lower ≡ Equal → first.place ≤ next.place
  place-later first next h same = grind arith

  -- ---- which of two ends is the later

  -- the span ends below the cut, or at the cut and does not come before the place
  abbrev pub EndsNoLater : Cut T → ℕ → PlacedSpan T → Type 0
  EndsNoLater upper place p =
      IsCutBelow cmp p.span.upper upper ⊎ ((cut_cmp cmp p.span.upper upper ≡ Equal) × (place ≤ p.place))

  -- or it ends above the cut, or at the cut and does not come after the place
  abbrev pub EndsLater : Cut T → ℕ → PlacedSpan T → Type 0
  EndsLater upper place p =
      IsCutBelow cmp upper p.span.upper ⊎ ((cut_cmp cmp upper p.span.upper ≡ Equal) × (p.place ≤ place))

  -- by the test of the program
  pub later-tested : (upper : Cut T) (place : ℕ) (next : PlacedSpan T) (b : Bool)
      → is_lt (ordering_then (cut_cmp cmp upper next.span.upper) (nat_cmp next.place place)) ≡ b
      → Tested b (EndsLater upper place next) (EndsNoLater upper place next)
  later-tested upper place next b h = grind arith

  -- a span that does not end later than one end does not end later than a later end
  pub no_later-trans : (upper upper' : Cut T) (place place' : ℕ) (p : PlacedSpan T) → EndsNoLater upper place p
      → IsCutBelow cmp upper upper' ⊎ ((cut_cmp cmp upper upper' ≡ Equal) × (place' ≤ place))
      → EndsNoLater upper' place' p
  no_later-trans upper upper' place place' p (inl h1) (inl h2) = inl (below_trans o p.span.upper upper upper' h1 h2)
  no_later-trans upper upper' place place' p (inl h1) (inr h2) =
      inl (below-at_most o p.span.upper upper upper' h1 (inr h2.0))
  no_later-trans upper upper' place place' p (inr h1) (inl h2) =
      inl (at_most-below o p.span.upper upper upper' (inr h1.0) h2)
  no_later-trans upper upper' place place' p (inr h1) (inr h2) =
      inr (sym (cut_cmp-equal_right o upper upper' p.span.upper h2.0) ∙ h1.0, omega (arith, h1.1, h2.1))

-- ---- two spans

-- the elements of a list of two
pub two-items : {X : Type 0} (xs : List X) (one other : X) → 2 ≤ length xs → length xs < 3 → one ≡ get_or xs 0 one
    → other ≡ get_or xs 1 other → xs ≡ one ∷ other ∷ []
two-items [] one other least below a b = absurd (omega arith)
two-items (x ∷ []) one other least below a b = absurd (omega arith)
two-items (x ∷ y ∷ []) one other least below a b = λ i. sym a i ∷ sym b i ∷ []
two-items (x ∷ y ∷ z ∷ xs) one other least below a b = absurd (omega arith)

-- if the second of two is less than the first, they are sorted the other way round
pub two-turned : {X : Type 0} (cmp : X → X → Ordering) → IsTotalOrder cmp → (one other : X)
    → is_lt (cmp other one) ≡ true → IsSorted cmp (other ∷ one ∷ [])
two-turned cmp o one other h = grind arith

pub two-moved : {X : Type 0} (one other : X) → IsPermutation (one ∷ other ∷ []) (other ∷ one ∷ [])
two-moved one other =
    IsPermutation-swap (one ∷ other ∷ []) (other ∷ one ∷ []) 0 1 (lit< tt) (lit< tt) refl
