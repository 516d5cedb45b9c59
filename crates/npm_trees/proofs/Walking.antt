-- One folder further up.
use Rattle.std.proofs.Common.{◌≡◌, ◌≢◌, ◌⊎◌, ◌<◌, ℕ, List, Option, None, Some, inl, inr, refl, slice_get}
use Rattle.npm_trees.specs.Places.{HasNone, IsIn, IsSeen, above, here, nowhere, up_of}
use Rattle.npm_trees.specs.Private.Folders.{AreUpward, IsIndexOf, IsOnlySeen, Map, at_name}
use Rattle.npm_trees.specs.Whole.{IsAbove, IsInFolder, further, next}
use Rattle.npm_trees.specs.declared.tree.Place.{Place}

-- ---- what is above a place

above_cases : (places : List Place) (number higher : ℕ) → IsAbove places number higher
    → (up : ℕ) × (up_of places number ≡ Some up) × ((up ≡ higher) ⊎ IsAbove places up higher)
above_cases places number higher (next _ up is) = (up, is, inl refl)
above_cases places number higher (further _ up _ is rest) = (up, is, inr rest)

pub further_up : (places : List Place) (number up higher : ℕ) → up_of places number ≡ Some up → up ≢ higher
    → IsAbove places number higher → IsAbove places up higher
further_up places number up higher is other over =
    let cases = above_cases places number higher over in
    let same : cases.0 ≡ up = cc (cases.1, is) in
    elim cases.2 [
      | inl there ↦ let e : up ≡ higher = cc (same, there) in absurd (other e)
      | inr rest ↦ rw same at rest
    ]

pub none_above : (places : List Place) (number higher : ℕ) → up_of places number ≡ None → IsAbove places number higher → ⊥
none_above places number higher none over =
    let cases = above_cases places number higher over in cc (cases.1, none)

-- ---- what is seen from a folder

module _ (places : List Place) (name : List ℕ) where
  abbrev Cases : (folder : ℕ) → Option ℕ → Type 0
  Cases folder found = ((number : ℕ) × IsIn places folder name number × (found ≡ Some number))
      ⊎ (HasNone places folder name
      × (((up : ℕ) × (up_of places folder ≡ Some up) × IsSeen places name up found)
      ⊎ ((up_of places folder ≡ None) × (found ≡ None))))

  seen_cases : (folder : ℕ) (found : Option ℕ) → IsSeen places name folder found → Cases folder found
  seen_cases folder found (here _ number is) = inl (number, is, refl)
  seen_cases folder found (above _ up _ none is rest) = inr (none, inl (up, is, rest))
  seen_cases folder found (nowhere _ none is) = inr (none, inr (is, refl))

  module _ (map : Map) (index : IsIndexOf places map) (folder : ℕ) where
    none_in : at_name map folder name ≡ None → HasNone places folder name
    none_in none number is = let there = (index folder name number).1 is in cc (none, there)

    pub only_here : (number : ℕ) → at_name map folder name ≡ Some number → IsOnlySeen places name folder (Some number)
    only_here number there = record {
      seen = here folder number ((index folder name number).0 there);
      only = λ found is. elim (seen_cases folder found is) [
        | inl w ↦ let other = (index folder name w.0).1 w.1 in cc (other, there, w.2)
        | inr w ↦ absurd (w.0 number ((index folder name number).0 there))
      ];
    }

    pub only_above : (up : ℕ) (found : Option ℕ) → at_name map folder name ≡ None → up_of places folder ≡ Some up
        → IsOnlySeen places name up found → IsOnlySeen places name folder found
    only_above up found none is rest = record {
      seen = above folder up found (none_in none) is rest.seen;
      only = λ other seen. elim (seen_cases folder other seen) [
        | inl w ↦ absurd (none_in none w.0 w.1)
        | inr w ↦ elim w.1 [
          | inl v ↦ let same : v.0 ≡ up = cc (v.1, is) in rest.only other (rw same at v.2)
          | inr v ↦ absurd (cc (v.0, is))
        ]
      ];
    }

    pub only_nothing : at_name map folder name ≡ None → up_of places folder ≡ None → IsOnlySeen places name folder None
    only_nothing none is = record {
      seen = nowhere folder (none_in none) is;
      only = λ other seen. elim (seen_cases folder other seen) [
        | inl w ↦ absurd (none_in none w.0 w.1)
        | inr w ↦ elim w.1 [
          | inl v ↦ absurd (cc (v.1, is))
          | inr v ↦ v.1
        ]
      ];
    }

-- ---- places in folders

pub upward : (places : List Place) → ((number : ℕ) (place : Place) → slice_get places number ≡ Some place → IsInFolder places number place)
    → AreUpward places
upward places all number up is = by (slice_get places number) refl where
  by : (o : Option Place) → slice_get places number ≡ o → up < number
  by None none = let never : None ≡ Some up = rw none at is in absurd (cc never)
  by (Some place) there =
      let up_is : place.up ≡ Some up = rw there at is in
      let in_it = rw up_is at (all number place there) in in_it.0
