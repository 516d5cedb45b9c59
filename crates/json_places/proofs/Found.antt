-- Where nothing is seen, one place more, and the places of all paths.
use Rattle.std.proofs.Common.{◌≡◌, ◌∙◌, ◌∷◌, [], ℕ, List, None, Option, Some, ap, inl, inr, length, map, option_map, refl, subst, suc, sym, zero}
use Rattle.std.specs.Prelude.{◌⊎◌, slice_get, slice_set}
use Rattle.std.proofs.lemmas.Option.{slice_get-map}
use Rattle.json_places.specs.Places.{ArePlacesOf, IsPlace, IsPlaceOf, IsStepAt}
use Rattle.json_places.specs.Private.FirstPlaces.{ArePlacesOfFirst, HaveSameLast, IsPlaceOfPath, nowhere, somewhere}
use Rattle.json_places.specs.Private.Searches.{AreSeen}
use Rattle.json_places.specs.Steps.{steps_seen}
use Rattle.json_places.specs.declared.path.Path.{Path}
use Rattle.json_places.specs.declared.place.Place.{Place}

-- at first no place of a path is known
abbrev not_seen : Path → Option Place
not_seen path = None

never : (path : Option Path) (place : Place) → option_map not_seen path ≡ Some (Some place) → ⊥
never None place is = cc
never (Some path) place is = cc

pub nothing : (text : List ℕ) (paths : List Path) (seen : List (Option Place)) → seen ≡ map not_seen paths
    → AreSeen text seen
nothing text paths seen is = record {
  each = λ k place had. absurd (never (slice_get paths k) place
      (sym (slice_get-map not_seen paths k) ∙ (ap (λ list. slice_get list k) (sym is) ∙ had)));
}

same_in : {X : Type 0} (x y : X) → Some x ≡ Some y → x ≡ y
same_in x y is = cc is

-- an element of a list in which one is replaced
set_cases : {X : Type 0} (xs : List X) (i k : ℕ) (y z : X) → slice_get (slice_set xs i y) k ≡ Some z
    → (slice_get xs k ≡ Some z) ⊎ (y ≡ z)
set_cases [] i k y z is = inl is
set_cases (x ∷ xs) zero zero y z is = inr (same_in y z is)
set_cases (x ∷ xs) zero (suc k) y z is = inl is
set_cases (x ∷ xs) (suc i) zero y z is = inl is
set_cases (x ∷ xs) (suc i) (suc k) y z is = set_cases xs i k y z is

module _ (text : List ℕ) (seen : List (Option Place)) (index : ℕ) (place : Place) (at : IsPlace text place)
    (before : AreSeen text seen) where
  at_index : (k : ℕ) (other : Place) → (slice_get seen k ≡ Some (Some other)) ⊎ (Some place ≡ Some other)
      → IsPlace text other
  at_index k other (inl there) = before.each k other there
  at_index k other (inr same) = subst (IsPlace text) (same_in place other same) at

  -- one place more
  pub seen_more : AreSeen text (slice_set seen index (Some place))
  seen_more = record { each = λ k other had. at_index k other (set_cases seen index k (Some place) (Some other) had) }

-- the place of a path that is known
pub of_path : (text : List ℕ) (paths : List Path) (k : ℕ) (path : Path) (place : Place) (found : Option Place)
    → slice_get paths k ≡ Some path → found ≡ Some place → IsPlaceOfPath text paths k found
    → IsPlaceOf text (steps_seen path.steps.items) place
of_path text paths k path place None there is nowhere = absurd (cc is)
of_path text paths k path place (Some other) there is (somewhere own _ here of) =
    let same : own ≡ path = same_in own path (sym here ∙ there) in
    let equal : other ≡ place = same_in other place is in
    subst (λ p. IsPlaceOf text (steps_seen path.steps.items) p) equal
    (subst (λ (p : Path). IsPlaceOf text (steps_seen p.steps.items) other) same of)

-- those of all paths
pub all_places : (text : List ℕ) (paths : List Path) (found : List (Option Place))
    → ArePlacesOfFirst text paths (length paths) found → ArePlacesOf text paths found
all_places text paths found first = record {
  one_for_each = first.one_for_each;
  each = λ k path place there had. of_path text paths k path place (Some place) there refl (first.each k (Some place) had);
}

-- the place of the path before, which has the same last step
pub as_before : (text : List ℕ) (paths : List Path) (index before : ℕ) (found : List (Option Place)) (place : Place)
    → ArePlacesOfFirst text paths index found → HaveSameLast paths before index
    → slice_get found before ≡ Some (Some place) → IsPlaceOfPath text paths index (Some place)
as_before text paths index before found place first same had =
    let of = of_path text paths before same.first place (Some place) same.there refl (first.each before (Some place) had) in
    let step : of.step ≡ same.step = same_in of.step same.step (sym of.last ∙ same.first_last) in
    somewhere same.second place same.here (record {
      step = same.step;
      last = same.second_last;
      there = subst (IsStepAt text place.offset) step of.there;
      at = of.at;
    })
