-- Which end is chosen if several are equal. The values are numbers with a mark, which the order ignores.
use Rattle.std.proofs.Common.{◌≡◌, ◌⊎◌, ℕ, List, [], ◌∷◌, ◌++◌, Ordering, Less, Equal, refl, ap, subst, sym, ◌∙◌, inl}
use Rattle.std.proofs.Common.{inr, ⊎_elim, arith}
use Rattle.std.specs.List.{AllByRecursion}
use Rattle.std.specs.Ordering.{nat_cmp, on}
use Rattle.semver_cuts.specs.declared.cut.Cut.{Cut}
use Rattle.semver_cuts.specs.declared.cut.Cut.TheVariants.{Start, Before, After, End}
use Rattle.semver_cuts.specs.Cut.{cut_cmp}
use Rattle.semver_cuts.specs.CommonSpans.{common_spans}
use Rattle.semver_cuts.specs.Ends.{Ends, IsCutAtMost, IsCutBelow, span_between}
use Rattle.semver_cuts.specs.ChosenEnds.{IsFirstLeastUpper, IsLastGreatestLower}
use Rattle.semver_cuts.specs.Places.{merged_spans}
use Rattle.semver_cuts.specs.Difference.{IsFirstAt, IsPieceLower, IsPieceUpper}

abbrev Marked : Type 0
Marked = ℕ × ℕ

abbrev marked_cmp : Marked → Marked → Ordering
marked_cmp = on (λ (v : Marked). v.0) nat_cmp

-- from before one number up to before another, both with one mark
abbrev from_to : ℕ → ℕ → ℕ → Ends Marked
from_to mark low high = span_between (Before (low, mark)) (Before (high, mark))

-- ---- the intersection of two lists: of equal lower ends that of the second, of equal upper ends that of the first

common-ties : common_spans marked_cmp (from_to 1 3 5 ∷ []) (from_to 2 3 5 ∷ [])
    ≡ span_between (Before (3, 2)) (Before (5, 1)) ∷ []
common-ties = refl

common-order : common_spans marked_cmp (from_to 1 6 9 ∷ from_to 1 0 5 ∷ []) (from_to 2 4 7 ∷ from_to 3 0 2 ∷ [])
    ≡ span_between (Before (6, 1)) (Before (7, 2)) ∷ span_between (Before (4, 2)) (Before (5, 1))
    ∷ span_between (Before (0, 3)) (Before (2, 3)) ∷ []
common-order = refl

-- ---- the difference of two lists: of several ends at a cut that of the first span

equal-not_less : Equal ≡ Less → ⊥
equal-not_less e = cc

less-not_equal : Less ≡ Equal → ⊥
less-not_equal e = cc

two-not_three : ◌≡◌ {A = ℕ} 2 3 → ⊥
two-not_three e = omega arith

one-not_two : ◌≡◌ {A = ℕ} 1 2 → ⊥
one-not_two e = omega arith

two-not_one : ◌≡◌ {A = ℕ} 2 1 → ⊥
two-not_one e = omega arith

head-same : {X : Type 0} (x y : X) (xs ys : List X) → x ∷ xs ≡ y ∷ ys → x ≡ y
head-same x y xs ys e = cc

tail-same : {X : Type 0} (x y : X) (xs ys : List X) → x ∷ xs ≡ y ∷ ys → xs ≡ ys
tail-same x y xs ys e = cc

not-none : {X : Type 0} (x : X) (xs : List X) → ¬ ([] ≡ x ∷ xs)
not-none x xs e = cc

-- the mark of a cut's number, and 3 if it has no number
abbrev mark_of : Cut Marked → ℕ
mark_of (Before v) = v.1
mark_of (After v) = v.1
mark_of Start = 3
mark_of End = 3

abbrev NotAt : (Ends Marked → Cut Marked) → Cut Marked → Ends Marked → Type 0
NotAt end cut other = ¬ (cut_cmp marked_cmp (end other) cut ≡ Equal)

first-by : (end : Ends Marked → Cut Marked) (first : Ends Marked) (spans : List (Ends Marked)) (cut : Cut Marked)
    → cut_cmp marked_cmp (end first) cut ≡ Equal
    → (before : List (Ends Marked)) (span : Ends Marked) (after : List (Ends Marked))
    → first ∷ spans ≡ before ++ span ∷ after → end span ≡ cut → AllByRecursion (NotAt end cut) before → end first ≡ cut
first-by end first spans cut same [] span after parts at earlier =
    ap end (head-same first span spans after parts) ∙ at
first-by end first spans cut same (other ∷ before) span after parts at earlier =
    absurd (earlier.0 (subst (λ s. cut_cmp marked_cmp (end s) cut ≡ Equal)
    (head-same first other spans (before ++ span ∷ after) parts) same))

-- if the first span of a list has its end at the cut, that end is chosen
first-chosen : (end : Ends Marked → Cut Marked) (first : Ends Marked) (spans : List (Ends Marked)) (cut : Cut Marked)
    → cut_cmp marked_cmp (end first) cut ≡ Equal → IsFirstAt marked_cmp end (first ∷ spans) cut → end first ≡ cut
first-chosen end first spans cut same at =
    first-by end first spans cut same at.before at.span at.after at.parts at.end_of at.earlier

-- from 0 on
abbrev whole : Ends Marked
whole = span_between (Before (0, 3)) End

abbrev ending_together : List (Ends Marked)
ending_together = from_to 1 1 2 ∷ from_to 2 0 2 ∷ []

begins-at_first : IsPieceLower marked_cmp ending_together whole (Before (2, 1))
begins-at_first = inr (
  refl,
  record {
    before = [];
    span = from_to 1 1 2;
    after = from_to 2 0 2 ∷ [];
    parts = refl;
    end_of = refl;
    earlier = tt;
    later = (tt, tt);
  },
)

not-at_second : ¬ IsPieceLower marked_cmp ending_together whole (Before (2, 2))
not-at_second (inl e) = two-not_three (ap mark_of e)
not-at_second (inr at) =
    one-not_two (ap mark_of (first-chosen (λ s. s.upper) (from_to 1 1 2) (from_to 2 0 2 ∷ [])
    (Before (2, 2)) refl at.1))

abbrev beginning_together : List (Ends Marked)
beginning_together = from_to 1 5 6 ∷ from_to 2 5 7 ∷ []

ends-at_first : IsPieceUpper marked_cmp beginning_together whole (Before (5, 1))
ends-at_first = inr (
  refl,
  record {
    before = [];
    span = from_to 1 5 6;
    after = from_to 2 5 7 ∷ [];
    parts = refl;
    end_of = refl;
    earlier = tt;
    later = (tt, tt);
  },
)

ends-not_at_second : ¬ IsPieceUpper marked_cmp beginning_together whole (Before (5, 2))
ends-not_at_second (inl e) = two-not_three (ap mark_of e)
ends-not_at_second (inr at) =
    one-not_two (ap mark_of (first-chosen (λ s. s.lower) (from_to 1 5 6) (from_to 2 5 7 ∷ [])
    (Before (5, 2)) refl at.1))

-- ---- the intersection of the spans of a list: of equal lower ends the last, of equal upper ends the first

chosen-by : (end : Ends Marked → Cut Marked) (P Q : Cut Marked → Cut Marked → Type 0) (one two : Ends Marked)
    (cut : Cut Marked)
    (before : List (Ends Marked)) (span : Ends Marked) (after : List (Ends Marked))
    → one ∷ two ∷ [] ≡ before ++ span ∷ after → end span ≡ cut
    → AllByRecursion (λ (other : Ends Marked). P (end other) cut) before
    → AllByRecursion (λ (other : Ends Marked). Q (end other) cut) after
    → ((end one ≡ cut) × Q (end two) cut) ⊎ ((end two ≡ cut) × P (end one) cut)
chosen-by end P Q one two cut [] span after parts at earlier later =
    let rest : two ∷ [] ≡ after = tail-same one span (two ∷ []) after parts in
    inl (
      ap end (head-same one span (two ∷ []) after parts) ∙ at,
      (subst (AllByRecursion (λ (other : Ends Marked). Q (end other) cut)) (sym rest) later).0,
    )
chosen-by end P Q one two cut (x ∷ []) span after parts at earlier later =
    let rest : two ∷ [] ≡ span ∷ after = tail-same one x (two ∷ []) (span ∷ after) parts in
    inr (
      ap end (head-same two span [] after rest) ∙ at,
      subst (λ s. P (end s) cut) (sym (head-same one x (two ∷ []) (span ∷ after) parts)) earlier.0,
    )
chosen-by end P Q one two cut (x ∷ y ∷ []) span after parts at earlier later =
    absurd (not-none span after (tail-same two y [] (span ∷ after)
    (tail-same one x (two ∷ []) (y ∷ span ∷ after) parts)))
chosen-by end P Q one two cut (x ∷ y ∷ z ∷ before) span after parts at earlier later =
    absurd (not-none z (before ++ span ∷ after) (tail-same two y [] (z ∷ (before ++ span ∷ after))
    (tail-same one x (two ∷ []) (y ∷ z ∷ (before ++ span ∷ after)) parts)))

last-lower : IsLastGreatestLower marked_cmp (from_to 1 3 5 ∷ from_to 2 3 5 ∷ []) (Before (3, 2))
last-lower = record {
  before = from_to 1 3 5 ∷ [];
  span = from_to 2 3 5;
  after = [];
  parts = refl;
  end_of = refl;
  earlier = (inr refl, tt);
  later = tt;
}

not-first_lower : ¬ IsLastGreatestLower marked_cmp (from_to 1 3 5 ∷ from_to 2 3 5 ∷ []) (Before (3, 1))
not-first_lower at =
    ⊎_elim (λ h. equal-not_less h.1) (λ h. two-not_one (ap mark_of h.0))
    (chosen-by (λ s. s.lower) (λ c d. IsCutAtMost marked_cmp c d) (λ c d. IsCutBelow marked_cmp c d) (from_to 1 3 5)
    (from_to 2 3 5) (Before (3, 1)) at.before at.span at.after at.parts at.end_of at.earlier at.later)

first-upper : IsFirstLeastUpper marked_cmp (from_to 1 3 5 ∷ from_to 2 3 5 ∷ []) (Before (5, 1))
first-upper = record {
  before = [];
  span = from_to 1 3 5;
  after = from_to 2 3 5 ∷ [];
  parts = refl;
  end_of = refl;
  earlier = tt;
  later = (inr refl, tt);
}

not-last_upper : ¬ IsFirstLeastUpper marked_cmp (from_to 1 3 5 ∷ from_to 2 3 5 ∷ []) (Before (5, 2))
not-last_upper at =
    ⊎_elim (λ h. one-not_two (ap mark_of h.0)) (λ h. equal-not_less h.1)
    (chosen-by (λ s. s.upper) (λ c d. IsCutBelow marked_cmp d c) (λ c d. IsCutAtMost marked_cmp d c) (from_to 1 3 5)
    (from_to 2 3 5) (Before (5, 2)) at.before at.span at.after at.parts at.end_of at.earlier at.later)

-- ---- the spans that a list is joined to: of equal ends the first of the list

-- 1 to 3, 3 to 5 and 1 to 5
abbrev touching : List (Ends Marked)
touching = from_to 1 1 3 ∷ from_to 2 3 5 ∷ from_to 3 1 5 ∷ []

joined-ties : merged_spans touching ((0, 1) ∷ []) ≡ span_between (Before (1, 1)) (Before (5, 2)) ∷ []
joined-ties = refl

first-joined : IsFirstAt marked_cmp (λ (s : Ends Marked). s.upper) touching (Before (5, 2))
first-joined = record {
  before = from_to 1 1 3 ∷ [];
  span = from_to 2 3 5;
  after = from_to 3 1 5 ∷ [];
  parts = refl;
  end_of = refl;
  earlier = (λ e. less-not_equal e, tt);
  later = (tt, tt);
}
