-- Items of lists, by their places and by what the lists are made from.
use Rattle.std.proofs.Common.{◌≡◌, ◌∙◌, ◌<◌, ◌⊎◌, ℕ, zero, suc, List, [], ◌∷◌, ◌++◌, Bool, true, false, Some, ap, arith, filter, flat_map, inl, inr, length, map, option_map, refl, reverse, subst, sym}
use Rattle.std.proofs.lemmas.List.Elements.{Contains-append_cases, Contains-append_left, Contains-append_right}
use Rattle.std.proofs.lemmas.List.Sorted.{Contains-permutation, IsPermutation-reverse}
use Rattle.std.proofs.lemmas.Option.{get_or_from_slice_get, slice_get-get_or, slice_get-map, slice_get_within}
use Rattle.std.specs.Prelude.{slice_get}
use Rattle.std.specs.List.{AllZip, Contains}

-- ---- by places

pub place_of : {X : Type 0} (xs : List X) (x : X) → Contains xs x → (i : ℕ) × (slice_get xs i ≡ Some x)
place_of xs x is = (is.0, slice_get-get_or xs is.0 x is.1 ∙ ap Some is.2)

pub item_of : {X : Type 0} (xs : List X) (i : ℕ) (x : X) → slice_get xs i ≡ Some x → Contains xs x
item_of xs i x is = (i, slice_get_within xs i x is, get_or_from_slice_get xs i x x is)

pub place_within : {X : Type 0} (xs : List X) (i : ℕ) → i < length xs → (x : X) × (slice_get xs i ≡ Some x)
place_within [] i inside = absurd (omega (arith, inside))
place_within (x ∷ xs) zero inside = (x, refl)
place_within (x ∷ xs) (suc i) inside = place_within xs i (omega (arith, inside))

-- an item of two lists, one after the other
pub either_place : {X : Type 0} (xs ys : List X) (i : ℕ) (x : X) → slice_get (xs ++ ys) i ≡ Some x
    → (slice_get xs i ≡ Some x) ⊎ Contains ys x
either_place [] ys i x is = inr (item_of ys i x is)
either_place (y ∷ xs) ys zero x is = inl is
either_place (y ∷ xs) ys (suc i) x is = either_place xs ys i x is

pub zip_right : {X Y : Type 0} (R : X → Y → Type 0) (xs : List X) (ys : List Y) (i : ℕ) (y : Y) → AllZip R xs ys
    → slice_get ys i ≡ Some y → (x : X) × (slice_get xs i ≡ Some x) × R x y
zip_right R [] [] i y all is = absurd (cc is)
zip_right R [] (z ∷ ys) i y all is = absurd all
zip_right R (x ∷ xs) [] i y all is = absurd all
zip_right R (x ∷ xs) (z ∷ ys) zero y all is = let same : z ≡ y = cc is in (x, refl, subst (R x) same all.0)
zip_right R (x ∷ xs) (z ∷ ys) (suc i) y all is = zip_right R xs ys i y all.1 is

-- ---- by what the lists are made from

pub first_in : {X : Type 0} (x : X) (xs : List X) → Contains (x ∷ xs) x
first_in x xs = (0, omega arith, refl)

pub later_in : {X : Type 0} (y : X) (xs : List X) (x : X) → Contains xs x → Contains (y ∷ xs) x
later_in y xs x is = Contains-append_right (y ∷ []) xs x is

pub none_in : {X : Type 0} (x : X) → Contains [] x → ⊥
none_in x is = absurd (omega (arith, is.1))

only_at : {X : Type 0} (y x : X) (i : ℕ) → i < length (y ∷ []) → slice_get (y ∷ []) i ≡ Some x → y ≡ x
only_at y x zero inside same = cc same
only_at y x (suc i) inside same = absurd (omega (arith, inside))

only_in : {X : Type 0} (y x : X) → Contains (y ∷ []) x → y ≡ x
only_in y x is = let place = place_of (y ∷ []) x is in only_at y x place.0 (slice_get_within (y ∷ []) place.0 x place.1) place.1

pub in_cases : {X : Type 0} (y : X) (xs : List X) (x : X) → Contains (y ∷ xs) x → (y ≡ x) ⊎ Contains xs x
in_cases y xs x is = by_part (Contains-append_cases (y ∷ []) xs x is) where
  by_part : Contains (y ∷ []) x ⊎ Contains xs x → (y ≡ x) ⊎ Contains xs x
  by_part (inl here) = inl (only_in y x here)
  by_part (inr later) = inr later

pub in_reverse : {X : Type 0} (xs : List X) (x : X) → Contains xs x → Contains (reverse xs) x
in_reverse xs x is = Contains-permutation xs (reverse xs) x (IsPermutation-reverse xs) is

pub in_map : {X Y : Type 0} (f : X → Y) (xs : List X) (x : X) → Contains xs x → Contains (map f xs) (f x)
in_map f xs x is =
    let at = place_of xs x is in
    item_of (map f xs) at.0 (f x) (slice_get-map f xs at.0 ∙ ap (option_map f) at.1)

pub in_filter : {X : Type 0} (test : X → Bool) (xs : List X) (x : X) → Contains xs x → test x ≡ true → Contains (filter test xs) x
in_filter test [] x is passes = absurd (none_in x is)
in_filter test (y ∷ xs) x is passes = by_part (λ later. in_filter test xs x later passes) (in_cases y xs x is) (test y) refl where
  by_part : (Contains xs x → Contains (filter test xs) x) → (y ≡ x) ⊎ Contains xs x → (b : Bool) → test y ≡ b
      → Contains (filter test (y ∷ xs)) x
  by_part more (inl here) true on = subst (Contains (filter test (y ∷ xs))) here (rw on (first_in y (filter test xs)))
  by_part more (inl here) false off = absurd (let on : test y ≡ true = ap test here ∙ passes in (cc (on, off)))
  by_part more (inr later) true on = rw on (later_in y (filter test xs) x (more later))
  by_part more (inr later) false off = rw off (more later)

pub from_filter : {X : Type 0} (test : X → Bool) (xs : List X) (x : X) → Contains (filter test xs) x → Contains xs x
from_filter test [] x is = is
from_filter test (y ∷ xs) x is = by_test (from_filter test xs x) (test y) refl is where
  by_part : (Contains (filter test xs) x → Contains xs x) → (y ≡ x) ⊎ Contains (filter test xs) x → Contains (y ∷ xs) x
  by_part more (inl here) = subst (Contains (y ∷ xs)) here (first_in y xs)
  by_part more (inr later) = later_in y xs x (more later)

  by_test : (Contains (filter test xs) x → Contains xs x) → (b : Bool) → test y ≡ b → Contains (filter test (y ∷ xs)) x
      → Contains (y ∷ xs) x
  by_test more true on some = by_part more (in_cases y (filter test xs) x (rw on at some))
  by_test more false off some = later_in y xs x (more (rw off at some))

pub in_flat_map : {X Y : Type 0} (f : X → List Y) (xs : List X) (x : X) (y : Y) → Contains xs x → Contains (f x) y
    → Contains (flat_map f xs) y
in_flat_map f [] x y is inside = absurd (none_in x is)
in_flat_map f (w ∷ xs) x y is inside = by_part (λ later. in_flat_map f xs x y later inside) (in_cases w xs x is) where
  by_part : (Contains xs x → Contains (flat_map f xs) y) → (w ≡ x) ⊎ Contains xs x → Contains (f w ++ flat_map f xs) y
  by_part more (inl here) = Contains-append_left (f w) (flat_map f xs) y (subst (λ z. Contains (f z) y) (sym here) inside)
  by_part more (inr later) = Contains-append_right (f w) (flat_map f xs) y (more later)

pub from_flat_map : {X Y : Type 0} (f : X → List Y) (xs : List X) (y : Y) → Contains (flat_map f xs) y
    → (x : X) × Contains xs x × Contains (f x) y
from_flat_map f [] y is = absurd (none_in y is)
from_flat_map f (x ∷ xs) y is = by_part (from_flat_map f xs y) (Contains-append_cases (f x) (flat_map f xs) y is) where
  by_part : (Contains (flat_map f xs) y → (z : _) × Contains xs z × Contains (f z) y) → Contains (f x) y ⊎ Contains (flat_map f xs) y
      → (z : _) × Contains (x ∷ xs) z × Contains (f z) y
  by_part more (inl here) = (x, first_in x xs, here)
  by_part more (inr later) = let found = more later in (found.0, later_in x xs found.0 found.1, found.2)
