-- Lists of spans of numbers: how many spans they are joined to, their places, and whether one covers another.
use Rattle.std.proofs.Common.{◌≡◌, ℕ, [], ◌∷◌, Less, Equal, Greater, refl, inl, inr, ⊎_elim}
use Rattle.std.specs.Cmp.{nat_cmp_total}
use Rattle.std.specs.Ordering.{nat_cmp}
use Rattle.semver_cuts.specs.declared.cut.Cut.TheVariants.{Before}
use Rattle.semver_cuts.specs.Ends.{Ends, span_between}
use Rattle.semver_cuts.specs.Places.{merged_spans}
use Rattle.semver_cuts.specs.Sharing.{CoversAll}
use Rattle.semver_cuts.specs.Starts.{count_of_starts}
use Rattle.semver_cuts.specs.Lemmas.Ends.{at_most_trans}

-- from before one number up to before another
abbrev from_to : ℕ → ℕ → Ends ℕ
from_to low high = span_between (Before low) (Before high)

-- ---- how many spans a list is joined to

falling : count_of_starts nat_cmp (from_to 5 7 ∷ from_to 3 4 ∷ from_to 0 1 ∷ []) ≡ 3
falling = refl

touching : count_of_starts nat_cmp (from_to 2 3 ∷ from_to 1 2 ∷ from_to 3 4 ∷ []) ≡ 1
touching = refl

repeated : count_of_starts nat_cmp (from_to 1 2 ∷ from_to 4 5 ∷ from_to 1 2 ∷ from_to 4 5 ∷ []) ≡ 2
repeated = refl

nested : count_of_starts nat_cmp (from_to 2 3 ∷ from_to 0 9 ∷ from_to 4 5 ∷ []) ≡ 1
nested = refl

none : count_of_starts nat_cmp [] ≡ 0
none = refl

-- ---- places

kept : merged_spans (from_to 2 5 ∷ from_to 0 1 ∷ from_to 4 7 ∷ [])
    ((1, 1) ∷ (0, 2) ∷ []) ≡ from_to 0 1 ∷ from_to 2 7 ∷ []
kept = refl

itself : merged_spans (from_to 0 1 ∷ from_to 2 7 ∷ []) [] ≡ from_to 0 1 ∷ from_to 2 7 ∷ []
itself = refl

-- ---- coverage

equal-not_less : Equal ≡ Less → ⊥
equal-not_less e = cc

greater-not_less : Greater ≡ Less → ⊥
greater-not_less e = cc

greater-not_equal : Greater ≡ Equal → ⊥
greater-not_equal e = cc

-- one span of the second within the first is not enough
not-some : ¬ CoversAll nat_cmp (from_to 0 9 ∷ []) (from_to 20 30 ∷ from_to 1 2 ∷ [])
not-some covers =
    ⊎_elim (λ here. greater-not_less here.upper) (λ there. absurd there)
    (covers (Before 20) (inl (record { lower = inr refl; upper = refl })))

-- spans that touch do not cover each other
not-touching : ¬ CoversAll nat_cmp (from_to 0 1 ∷ []) (from_to 1 2 ∷ [])
not-touching covers =
    ⊎_elim (λ here. equal-not_less here.upper) (λ there. absurd there)
    (covers (Before 1) (inl (record { lower = inr refl; upper = refl })))

-- a gap between two spans of the first is not covered
not-hull : ¬ CoversAll nat_cmp (from_to 1 3 ∷ from_to 5 9 ∷ []) (from_to 2 8 ∷ [])
not-hull covers =
    ⊎_elim (λ low. greater-not_less low.upper)
    (λ rest. ⊎_elim (λ high. ⊎_elim greater-not_less greater-not_equal high.lower) (λ there. absurd there) rest)
    (covers (Before 4) (inl (record { lower = inl refl; upper = refl })))

-- each span of the second lies in one of the first
each_within : CoversAll nat_cmp (from_to 1 5 ∷ from_to 7 9 ∷ []) (from_to 8 9 ∷ from_to 2 5 ∷ [])
each_within cut (inl is) = inr (inl (record {
  lower = at_most_trans nat_cmp_total (Before 7) (Before 8) cut (inl refl) is.lower;
  upper = is.upper;
}))
each_within cut (inr (inl is)) = inl (record {
  lower = at_most_trans nat_cmp_total (Before 1) (Before 2) cut (inl refl) is.lower;
  upper = is.upper;
})
each_within cut (inr (inr nowhere)) = absurd nowhere
