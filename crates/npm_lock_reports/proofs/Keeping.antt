-- The values of the elements that are kept are those of all that are kept, and a package without hits is not.
use Rattle.std.proofs.Common.{◌≡◌, List, [], ◌∷◌, Bool, ap, cond, false, filter, map, refl, true}
use Rattle.npm_advisories.specs.Advisories.{AboutValue}
use Rattle.npm_advisories.specs.Audit.{FoundValue}
use Rattle.npm_lock_reports.specs.Exceptions.{some_list, with_hits}

one_kept : {A B : Type 0} (f : A → B) (b : Bool) (x : A) (xs : List A) (ys : List B) → map f xs ≡ ys
    → map f (cond b (x ∷ xs) xs) ≡ cond b (f x ∷ ys) ys
one_kept f true x xs ys same = ap (λ l. f x ∷ l) same
one_kept f false x xs ys same = same

pub map-kept : {A B : Type 0} (f : A → B) (test : B → Bool) (xs : List A)
    → map f (filter (λ x. test (f x)) xs) ≡ filter test (map f xs)
map-kept f test [] = refl
map-kept f test (x ∷ xs) =
    one_kept f (test (f x)) x (filter (λ x. test (f x)) xs) (filter test (map f xs)) (map-kept f test xs)

-- a package with some hits is left, with these
pub some-left : (found : FoundValue) (hits : List AboutValue) → (hits ≡ [] → ⊥)
    → some_list (with_hits found hits) ≡ record found { hits = hits } ∷ []
some-left found [] some = absurd (some refl)
some-left found (about ∷ others) some = refl
