-- Lists that go together, element by element.
use Rattle.std.proofs.Common.{◌≡◌, ◌∷◌, List, [], map, refl}
use Rattle.std.specs.List.{AllZip}

pub one_zip : {A B : Type 0} (R : A → B → Type 0) (a : A) (bs : List B) → AllZip R (a ∷ []) bs → (b : B) × (bs ≡ b ∷ []) × R a b
one_zip R a [] zip = absurd zip
one_zip R a (b ∷ []) zip = (b, refl, zip.0)
one_zip R a (b ∷ c ∷ bs) zip = absurd zip.1

pub head_zip : {A B : Type 0} (R : A → B → Type 0) (a : A) (more : List A) (bs : List B) → AllZip R (a ∷ more) bs
    → (b : B) × (others : List B) × (bs ≡ b ∷ others) × R a b
head_zip R a more [] zip = absurd zip
head_zip R a more (b ∷ bs) zip = (b, bs, refl, zip.0)

pub one_map : {A B : Type 0} (f : A → B) (xs : List A) (y : B) → map f xs ≡ y ∷ [] → (x : A) × (xs ≡ x ∷ []) × (f x ≡ y)
one_map f [] y is = cc is
one_map f (x ∷ []) y is = (x, refl, cc is)
one_map f (x ∷ z ∷ xs) y is = let never : f z ∷ map f xs ≡ [] = cc is in cc never

pub no_map : {A B : Type 0} (f : A → B) (xs : List A) → map f xs ≡ [] → xs ≡ []
no_map f [] is = refl
no_map f (x ∷ xs) is = cc is
