-- Lists whose items belong together, one after the other.
use Rattle.std.proofs.Common.{◌≡◌, ◌∙◌, ◌<◌, ◌++◌, ◌+◌, ℕ, zero, suc, List, [], ◌∷◌, Some, arith, ap, get_or, length, refl, subst, sym, take}
use Rattle.std.proofs.lemmas.List.{take_more}
use Rattle.std.specs.Prelude.{slice_get}
use Rattle.std.specs.List.{AllZip}

module _ {X Y : Type 0} (R : X → Y → Type 0) where
  pub zip_push : (xs : List X) (ys : List Y) (x : X) (y : Y) → AllZip R xs ys → R x y → AllZip R (xs ++ x ∷ []) (ys ++ y ∷ [])
  zip_push [] [] x y all one = (one, tt)
  zip_push [] (z ∷ ys) x y all one = absurd all
  zip_push (w ∷ xs) [] x y all one = absurd all
  zip_push (w ∷ xs) (z ∷ ys) x y all one = (all.0, zip_push xs ys x y all.1 one)

  pub zip_length : (xs : List X) (ys : List Y) → AllZip R xs ys → length xs ≡ length ys
  zip_length [] [] all = refl
  zip_length [] (y ∷ ys) all = absurd all
  zip_length (x ∷ xs) [] all = absurd all
  zip_length (x ∷ xs) (y ∷ ys) all = ap suc (zip_length xs ys all.1)

  pub zip_get_or : (xs : List X) (ys : List Y) (i : ℕ) (d : X) (e : Y) → AllZip R xs ys → i < length xs
      → R (get_or xs i d) (get_or ys i e)
  zip_get_or [] ys i d e all inside = absurd (omega (arith, inside))
  zip_get_or (x ∷ xs) [] i d e all inside = absurd all
  zip_get_or (x ∷ xs) (y ∷ ys) zero d e all inside = all.0
  zip_get_or (x ∷ xs) (y ∷ ys) (suc i) d e all inside = zip_get_or xs ys i d e all.1 (omega (arith, inside))

  pub zip_at : (xs : List X) (ys : List Y) (i : ℕ) (x : X) → AllZip R xs ys → slice_get xs i ≡ Some x
      → (y : Y) × (slice_get ys i ≡ Some y) × R x y
  zip_at [] ys i x zip is = cc is
  zip_at (z ∷ xs) [] i x zip is = absurd zip
  zip_at (z ∷ xs) (y ∷ ys) zero x zip is = let same : z ≡ x = cc is in (y, refl, rw (← same) zip.0)
  zip_at (z ∷ xs) (y ∷ ys) (suc i) x zip is = zip_at xs ys i x zip.1 is

  pub zip_weaker : (S : X → Y → Type 0) → ((x : X) (y : Y) → R x y → S x y) → (xs : List X) (ys : List Y) → AllZip R xs ys
      → AllZip S xs ys
  zip_weaker S more [] [] all = tt
  zip_weaker S more [] (y ∷ ys) all = absurd all
  zip_weaker S more (x ∷ xs) [] all = absurd all
  zip_weaker S more (x ∷ xs) (y ∷ ys) all = (more x y all.0, zip_weaker S more xs ys all.1)

  module _ (xs : List X) (ys : List Y) (i : ℕ) where
    pub zip_inside : AllZip R xs ys → i < length xs → i < length ys
    zip_inside all inside = subst (λ (n : ℕ). i < n) (zip_length xs ys all) inside

    pub one_more : (d : X) (y : Y) → i < length xs → AllZip R (take i xs) ys → R (get_or xs i d) y
        → AllZip R (take (i + 1) xs) (ys ++ y ∷ [])
    one_more d y inside all one = rw (take_more xs i d inside) (zip_push (take i xs) ys (get_or xs i d) y all one)

    -- the same where the item has a name
    pub item_more : (x : X) (y : Y) → i < length xs → x ≡ get_or xs i x → AllZip R (take i xs) ys → R x y
        → AllZip R (take (i + 1) xs) (ys ++ y ∷ [])
    item_more x y inside is all one = one_more x y inside all (subst (λ z. R z y) is one)
