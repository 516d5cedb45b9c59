-- Optional dependencies of the root that no version meets: their names, and what they demand.
use Rattle.std.proofs.Common.{◌≡◌, ◌∙◌, ◌&&◌, ◌||◌, ◌+◌, ◌∷◌, ◌⊎◌, ℕ, suc, List, [], Bool, true, false, Some, ap, arith, bytes_eq, filter, inl, inr, length, map, not, refl, sym, unwrap_or}
use Rattle.std.proofs.lemmas.Slice.Eq.{bytes_eq-Decides}
use Rattle.std.specs.Prelude.{slice_get}
use Rattle.std.specs.List.{Contains, list_any}
use Rattle.std.specs.Option.{option_map_or}
use Rattle.version_solving.specs.Naming.{number_of, place_from}
use Rattle.version_solving.specs.declared.ask.Listed.{Listed}
use Rattle.npm_resolve.specs.Instance.{IsNamed}
use Rattle.npm_resolve.specs.Optional.{name_at}
use Rattle.npm_resolve_laws.proofs.Lists.{in_cases, none_in}
use Rattle.npm_resolve_laws.proofs.Numbers.{number_named}

-- ---- names by their numbers

-- a name that is there has a place
place_found : (k : ℕ) (listed : List Listed) (name : List ℕ) → IsNamed listed name
    → (j : ℕ) × (place_from k listed name ≡ Some (j + k)) × (one : Listed) × (slice_get listed j ≡ Some one)
place_found k [] name is = absurd (none_in is.0 is.1)
place_found k (first ∷ others) name is = by_name (place_found (k + 1) others name) (bytes_eq first.name.now name) refl where
  by_name : (IsNamed others name → (j : ℕ) × (place_from (k + 1) others name ≡ Some (j + (k + 1))) × (one : Listed) × (slice_get others j ≡ Some one))
      → (b : Bool) → bytes_eq first.name.now name ≡ b
      → (j : ℕ) × (place_from k (first ∷ others) name ≡ Some (j + k)) × (one : Listed) × (slice_get (first ∷ others) j ≡ Some one)
  by_name more true on = let none_before : k ≡ 0 + k = omega arith in (0, rw on (ap Some none_before), first, refl)
  by_name more false off = by_case (in_cases first others is.0 is.1) where
    by_case : (first ≡ is.0) ⊎ Contains others is.0
        → (j : ℕ) × (place_from k (first ∷ others) name ≡ Some (j + k)) × (one : Listed) × (slice_get (first ∷ others) j ≡ Some one)
    by_case (inl here) = absurd (let on : bytes_eq first.name.now name ≡ true = (bytes_eq-Decides first.name.now name).1 (ap (λ (l : Listed). l.name.now) here ∙ is.2) in (cc (on, off)))
    by_case (inr later) =
        let found = more (is.0, later, is.2) in
        let next : found.0 + (k + 1) ≡ suc found.0 + k = omega arith in
        (suc found.0, rw off (found.1 ∙ ap Some next), found.2, found.3)

pub named_at : (names : List Listed) (name : List ℕ) → IsNamed names name → name_at names (number_of names name) ≡ name
named_at names name is =
    let found = place_found 0 names name is in
    let whole : found.0 + 0 ≡ found.0 = omega arith in
    let number : number_of names name ≡ found.0 = ap (λ o. unwrap_or o (length names)) found.1 ∙ whole in
    let there : slice_get names (number_of names name) ≡ Some found.2 = ap (slice_get names) number ∙ found.3 in
    ap (λ o. option_map_or (λ (one : Listed). one.name.now) o []) there ∙ number_named names name found.2 there

-- ---- what is not needed after all

-- it is unmet
pub is_told : (needed met required : Bool) → (needed && not (needed && not (met || required))) ≡ false → needed ≡ true
    → (needed && not (met || required)) ≡ true
is_told false met required off on = on
is_told true true required off on = absurd (cc off)
is_told true false true off on = absurd (cc off)
is_told true false false off on = refl

-- and no manifest requires it
pub not_required : (needed met required : Bool) → (needed && not (met || required)) ≡ true → required ≡ false
not_required false met required on = absurd (cc on)
not_required true true required on = absurd (cc on)
not_required true false true on = absurd (cc on)
not_required true false false on = refl

pub none_any : {X : Type 0} (test : X → Bool) (xs : List X) (x : X) → list_any test xs ≡ false → Contains xs x → test x ≡ false
none_any test [] x off is = absurd (none_in x is)
none_any test (y ∷ xs) x off is = by_part (none_any test xs x) (test y) refl off (in_cases y xs x is) where
  by_part : (list_any test xs ≡ false → Contains xs x → test x ≡ false) → (b : Bool) → test y ≡ b → (test y || list_any test xs) ≡ false
      → (y ≡ x) ⊎ Contains xs x → test x ≡ false
  by_part more true on all here = absurd (let never : (true || list_any test xs) ≡ false = rw on at all in (cc never))
  by_part more false none all (inl here) = ap test (sym here) ∙ none
  by_part more false none all (inr later) = more (rw none at all) later

-- ---- one demand alone

-- what is not among those that pass does not
pub alone_off : {X Y : Type 0} (f : X → Y) (test : X → Bool) (x : X) → map f (filter test (x ∷ [])) ≡ [] → test x ≡ false
alone_off f test x none = by_test (test x) refl where
  by_test : (b : Bool) → test x ≡ b → test x ≡ false
  by_test false off = off
  by_test true on = absurd (let some : f x ∷ [] ≡ [] = rw on at none in (cc some))

pub still_needed : (needed unmet : Bool) → unmet ≡ false → (needed && not unmet) ≡ needed
still_needed true unmet off = ap not off
still_needed false unmet off = refl
