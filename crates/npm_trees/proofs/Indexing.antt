-- One place more in the index.
use Rattle.std.proofs.Common.{◌≡◌, ◌∙◌, ◌<◌, ◌+◌, ◌&&◌, ◌==◌, ◌↔◌, ℕ, List, Bool, false, true, Option, None, Some, arith}
use Rattle.std.proofs.Common.{bytes_eq, cond, is_eq, nat_cmp, is_some, refl, sym, slice_get}
use Rattle.std.specs.Cmp.Lexicographic.{slice_cmp}
use Rattle.std.specs.Ordering.{ordering_then}
use Rattle.std.proofs.lemmas.Bool.Decides.{Decides-eqb, nat_tests}
use Rattle.std.proofs.lemmas.Map.Text.{is_eq-slice_cmp}
use Rattle.std.proofs.lemmas.Slice.Eq.{bytes_eq-Decides}
use Rattle.std.specs.Cmp.{tied_then}
use Rattle.npm_trees.specs.Places.{IsIn}
use Rattle.npm_trees.specs.Private.Folders.{AreDistinct, Map, at_name}
use Rattle.npm_trees.specs.declared.tree.Place.{Place}

-- ---- keys

pub is_eq-nat_cmp : (x y : ℕ) → is_eq (nat_cmp x y) ≡ (x == y)
is_eq-nat_cmp x y = grind (arith, nat_tests)

pub same_key : (folder other : ℕ) (name named : List ℕ)
    → is_eq (ordering_then (nat_cmp folder other) (slice_cmp nat_cmp name named)) ≡ ((folder == other) && bytes_eq name named)
same_key folder other name named = sym (tied_then (nat_cmp folder other) (slice_cmp nat_cmp name named))
    ∙ (λ i. is_eq-nat_cmp folder other i && is_eq-slice_cmp name named i)

both_true : (a b : Bool) → (a && b) ≡ true → (a ≡ true) × (b ≡ true)
both_true true b is = (refl, is)
both_true false b is = cc is

-- ---- the places so far

module _ (places : List Place) (number : ℕ) (place : Place) (there : slice_get places number ≡ Some place) where
  -- a place with this key is in the folder
  pub hit : (up folder : ℕ) (name : List ℕ) → place.up ≡ Some up
      → (((up == folder) && bytes_eq place.name.now name) ≡ true) ↔ IsIn places folder name number
  hit up folder name is = (
    (λ yes.
        let both = both_true (up == folder) (bytes_eq place.name.now name) yes in
        let of_folder : up ≡ folder = (Decides-eqb up folder).0 both.0 in
        record { place = place; there = there; up = rw of_folder at is; named = (bytes_eq-Decides place.name.now name).0 both.1 }),
    (λ in_it.
        let same : in_it.place ≡ place = cc (in_it.there, there) in
        let up_is : place.up ≡ Some folder = rw same at in_it.up in
        let named : place.name.now ≡ name = rw same at in_it.named in
        let of_folder : (up == folder) ≡ true = (Decides-eqb up folder).1 (cc (is, up_is)) in
        rw of_folder ((bytes_eq-Decides place.name.now name).1 named)),
  )

  -- the root is in no folder
  pub no_hit : (folder : ℕ) (name : List ℕ) → place.up ≡ None → IsIn places folder name number → ⊥
  no_hit folder name is in_it =
      let same : in_it.place ≡ place = cc (in_it.there, there) in
      let up_is : place.up ≡ Some folder = rw same at in_it.up in cc (is, up_is)

module _ (places : List Place) (folder : ℕ) (name : List ℕ) (number k : ℕ) where
  abbrev pub SoFar : ℕ → Option ℕ → Type 0
  SoFar bound found = (found ≡ Some k) ↔ ((k < bound) × IsIn places folder name k)

  last_or_before : (P : Type 0) → k < number + 1 → (k < number → P) → (k ≡ number → P) → P
  last_or_before P below before last = by_last (k == number) refl where
    by_last : (b : Bool) → (k == number) ≡ b → P
    by_last true is = last ((Decides-eqb k number).0 is)
    by_last false is = before (grind (arith, nat_tests))

  pub one_hit : (old : Option ℕ) → IsIn places folder name number → old ≡ None → SoFar number old → SoFar (number + 1) (Some number)
  one_hit old is none before = (
    (λ found. let same : number ≡ k = cc found in (omega arith, rw same at is)),
    (λ in_it. last_or_before (Some number ≡ Some k) in_it.0
        (λ below. let was : old ≡ Some k = before.1 (below, in_it.1) in absurd (cc (was, none)))
        (λ last. cc last)),
  )

  pub no_more : (old : Option ℕ) → (IsIn places folder name number → ⊥) → SoFar number old → SoFar (number + 1) old
  no_more old never before = (
    (λ found. let in_it = before.0 found in (omega (arith, in_it.0), in_it.1)),
    (λ in_it. last_or_before (old ≡ Some k) in_it.0
        (λ below. before.1 (below, in_it.1))
        (λ last. absurd (never (rw last at in_it.1)))),
  )

-- the index with one place more
pub indexed_more : (places : List Place) (folder : ℕ) (name : List ℕ) (number k : ℕ) (b : Bool) (old : Option ℕ)
    → (b ≡ true) ↔ IsIn places folder name number → (b ≡ true → old ≡ None) → SoFar places folder name number k number old
    → SoFar places folder name number k (number + 1) (cond b (Some number) old)
indexed_more places folder name number k true old is none before = one_hit places folder name number k old (is.0 refl) (none refl) before
indexed_more places folder name number k false old is none before =
    no_more places folder name number k old (λ in_it. let never : false ≡ true = is.1 in_it in cc never) before

-- ---- what the map said of a key

pub some_is : (o : Option ℕ) → is_some o ≡ true → (k : ℕ) × (o ≡ Some k)
some_is None is = cc is
some_is (Some k) is = (k, refl)

pub none_is : (o : Option ℕ) → is_some o ≡ false → o ≡ None
none_is None is = refl
none_is (Some k) is = cc is

-- nothing has a key, however it is told
pub free : (map : Map) (up folder : ℕ) (name named : List ℕ) → at_name map up named ≡ None
    → ((up == folder) && bytes_eq named name) ≡ true → at_name map folder name ≡ None
free map up folder name named none same =
    let both = both_true (up == folder) (bytes_eq named name) same in
    let of_folder : up ≡ folder = (Decides-eqb up folder).0 both.0 in
    let of_name : named ≡ name = (bytes_eq-Decides named name).0 both.1 in
    rw (of_folder, of_name) at none

-- a second place with the name
pub two_in : (places : List Place) (number : ℕ) (place : Place) → slice_get places number ≡ Some place → (up k : ℕ)
    → place.up ≡ Some up → (k < number) × IsIn places up place.name.now k → AreDistinct places → ⊥
two_in places number place there up k is in_it distinct =
    let here : IsIn places up place.name.now number = record { place = place; there = there; up = is; named = refl } in
    let same : k ≡ number = distinct up place.name.now k number in_it.1 here in
    omega (arith, same, in_it.0)
