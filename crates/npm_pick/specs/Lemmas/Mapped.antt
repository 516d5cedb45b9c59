-- Elements of lists that are mapped.
use Rattle.std.proofs.Common.{◌≡◌, ◌∙◌, List, [], ◌∷◌, ap, arith, inl, inr, map, refl, subst}
use Rattle.std.proofs.lemmas.List.Elements.{Contains-append_cases, Contains-append_left, Contains-append_right, Contains-push, Contains-push_cases}
use Rattle.std.specs.List.{Contains}

contains_one : {X : Type 0} (x y : X) → Contains (x ∷ []) y → x ≡ y
contains_one x y h = elim (Contains-push_cases [] x y h) [ inl none ↦ absurd (omega (arith, none.1)) | inr same ↦ same ]

contains_first : {X : Type 0} (x y : X) (xs : List X) → x ≡ y → Contains (x ∷ xs) y
contains_first x y xs same =
    subst (λ (z : _). Contains (x ∷ xs) z) same (Contains-append_left (x ∷ []) xs x (Contains-push [] x))

module _ {X Y : Type 0} (f : X → Y) where
  pub contains_mapped : (xs : List X) (y : Y) → Contains (map f xs) y → (x : X) × Contains xs x × (f x ≡ y)
  contains_mapped [] y h = absurd (omega (arith, h.1))
  contains_mapped (x ∷ xs) y h = elim (Contains-append_cases (f x ∷ []) (map f xs) y h) [
    | inl one ↦ (x, contains_first x x xs refl, contains_one (f x) y one)
    | inr there ↦
        let found = contains_mapped xs y there in
        (found.0, Contains-append_right (x ∷ []) xs found.0 found.1, found.2)
  ]

  pub mapped_contains : (xs : List X) (x : X) (y : Y) → Contains xs x → f x ≡ y → Contains (map f xs) y
  mapped_contains [] x y h same = absurd (omega (arith, h.1))
  mapped_contains (z ∷ xs) x y h same = elim (Contains-append_cases (z ∷ []) xs x h) [
    | inl one ↦ contains_first (f z) y (map f xs) (ap f (contains_one z x one) ∙ same)
    | inr there ↦ Contains-append_right (f z ∷ []) (map f xs) y (mapped_contains xs x y there same)
  ]
