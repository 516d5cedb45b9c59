-- What holds at each index so far.
use Rattle.std.proofs.Common.{◌≡◌, ◌<◌, ◌≤◌, ◌+◌, ◌==◌, ℕ, zero, suc, List, [], ◌∷◌, Bool, false, true, Some, arith, get_or, length, refl, slice_get}
use Rattle.std.proofs.lemmas.Bool.Decides.{Decides-eqb, nat_tests}
use Rattle.std.proofs.lemmas.Option.{slice_get-get_or, slice_get_read, slice_get_within}

pub at_index : {X : Type 0} (xs : List X) (i : ℕ) (x : X) → i < length xs → x ≡ get_or xs i x → slice_get xs i ≡ Some x
at_index xs i x below is = slice_get_read xs (length xs) i x refl below is

pub read_twice : {X : Type 0} (xs : List X) (i : ℕ) (d : X) → i < length xs → get_or xs i d ≡ get_or xs i (get_or xs i d)
read_twice xs i d within =
    let one = slice_get-get_or xs i d within in
    let other = slice_get-get_or xs i (get_or xs i d) within in cc (one, other)

module _ {X : Type 0} (P : ℕ → X → Type 0) (xs : List X) where
  abbrev pub UpTo : ℕ → Type 0
  UpTo bound = (k : ℕ) (x : X) → k < bound → slice_get xs k ≡ Some x → P k x

  pub more_at : (i : ℕ) (x : X) → i < length xs → x ≡ get_or xs i x → UpTo i → P i x → UpTo (i + 1)
  more_at i x within is before here k y below there = by_last (k == i) refl where
    by_last : (b : Bool) → (k == i) ≡ b → P k y
    by_last true last =
        let same : k ≡ i = (Decides-eqb k i).0 last in
        let at_i : slice_get xs i ≡ Some y = rw same at there in
        let value : x ≡ y = cc (at_i, at_index xs i x within is) in
        rw (same, ← value) here
    by_last false other = before k y (grind (arith, nat_tests)) there

  pub more_by : (i : ℕ) (d : X) → i < length xs → UpTo i → P i (get_or xs i d) → UpTo (i + 1)
  more_by i d within before here = more_at i (get_or xs i d) within (read_twice xs i d within) before here

  pub all_at : (i : ℕ) → length xs ≤ i → UpTo i → (k : ℕ) (x : X) → slice_get xs k ≡ Some x → P k x
  all_at i past before k x there = before k x (omega (arith, slice_get_within xs k x there)) there

  pub not_at : (i : ℕ) (x : X) → i < length xs → x ≡ get_or xs i x → (P i x → ⊥)
      → ((k : ℕ) (y : X) → slice_get xs k ≡ Some y → P k y) → ⊥
  not_at i x within is never all = never (all i x (at_index xs i x within is))

pub some_at : {X : Type 0} (xs : List X) (i : ℕ) → i < length xs → (x : X) × (slice_get xs i ≡ Some x)
some_at [] i below = absurd (omega arith)
some_at (x ∷ xs) zero below = (x, refl)
some_at (x ∷ xs) (suc i) below = some_at xs i (omega arith)
