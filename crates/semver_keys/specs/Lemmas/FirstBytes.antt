-- The first byte decides the order of two keys, unless it is the same in both.
use Rattle.std.proofs.Common.{◌≡◌, ◌<◌, ℕ, List, ◌∷◌, refl, sym, ap, ◌∙◌}
use Rattle.std.specs.Cmp.{nat_cmp_is}
use Rattle.std.specs.Ordering.{MatchOrdering, nat_cmp, ordering_then}
use Rattle.std.specs.declared.cmp.Ordering.{Ordering}
use Rattle.std.specs.declared.cmp.Ordering.TheVariants.{Less, Equal, Greater}
use Rattle.semver_keys.specs.KeyOrder.{key_cmp}

-- three steps of a comparison, in either grouping
pub then-then : (a b c : Ordering) → ordering_then (ordering_then a b) c ≡ ordering_then a (ordering_then b c)
then-then Less b c = refl
then-then Equal b c = refl
then-then Greater b c = refl

-- the two numbers stand in this order
abbrev pub Stand : Ordering → ℕ → ℕ → Type 0
Stand o m n = MatchOrdering o (m < n) (m ≡ n) (n < m)

-- two keys, by the order of their first bytes
pub first-bytes : (o : Ordering) (m n : ℕ) (r s : List ℕ) → Stand o m n
    → key_cmp (m ∷ r) (n ∷ s) ≡ ordering_then o (key_cmp r s)
first-bytes o m n r s h = ap (λ p. ordering_then p (key_cmp r s)) (sym (nat_cmp_is m n o h))

-- two keys, by the order of two numbers that stand as their first bytes do, where what follows does not count
pub first-as : (o : Ordering) (m n a b : ℕ) (r s : List ℕ) (p : Ordering) → Stand o m n → Stand o a b
    → ordering_then o (key_cmp r s) ≡ ordering_then o p → key_cmp (m ∷ r) (n ∷ s) ≡ ordering_then (nat_cmp a b) p
first-as o m n a b r s p h k e = first-bytes o m n r s h ∙ e ∙ ap (λ q. ordering_then q p) (nat_cmp_is a b o k)
