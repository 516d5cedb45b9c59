-- Elements of a list, and of a permutation of it.
use Rattle.std.proofs.Common.{◌≡◌, ◌⊎◌, List, [], ◌∷◌, refl, sym, subst, inl}
use Rattle.std.proofs.Common.{inr}
use Rattle.std.specs.List.{AllByRecursion}
use Rattle.std.specs.List.Sorted.{IsPermutation}
use Rattle.std.proofs.lemmas.List.Elements.{All-from_recursion, recursion_from_All}
use Rattle.std.proofs.lemmas.List.Sorted.{All-permutation}
use Rattle.semver_cuts.specs.Lemmas.Lists.{all_map}

-- the value is one of the elements
abbrev pub IsAmong : {X : Type 0} → List X → X → Type 0
IsAmong [] x = ⊥
IsAmong (y ∷ ys) x = (x ≡ y) ⊎ IsAmong ys x

-- what is true of each element is true of such a value
pub all-among : {X : Type 0} (P : X → Type 0) (xs : List X) (x : X) → AllByRecursion P xs → IsAmong xs x → P x
all-among P [] x all is = elim is [ ]
all-among P (y ∷ xs) x all (inl same) = subst P (sym same) all.0
all-among P (y ∷ xs) x all (inr there) = all-among P xs x all.1 there

module _ {X : Type 0} where
  among-more : (x : X) (xs : List X) → AllByRecursion (λ (y : X). IsAmong xs y) xs
      → AllByRecursion (λ (y : X). IsAmong (x ∷ xs) y) xs
  among-more x xs all = all_map (λ (y : X). IsAmong xs y) (λ (y : X). IsAmong (x ∷ xs) y) (λ y h. inr h) xs all

  -- each element is one of the elements
  pub among-itself : (xs : List X) → AllByRecursion (λ (y : X). IsAmong xs y) xs
  among-itself [] = tt
  among-itself (x ∷ xs) = (inl refl, among-more x xs (among-itself xs))

  -- what is true of each element is true of each element of a permutation
  pub all-moved : (P : X → Type 0) (xs ys : List X) → IsPermutation xs ys → AllByRecursion P xs → AllByRecursion P ys
  all-moved P xs ys moves all = recursion_from_All P ys (All-permutation P xs ys moves (All-from_recursion P xs all))

  -- and a permutation has the same elements
  pub among-moved : (xs ys : List X) → IsPermutation xs ys → (x : X) → IsAmong ys x → IsAmong xs x
  among-moved xs ys moves x is =
      all-among (λ (y : X). IsAmong xs y) ys x (all-moved (λ (y : X). IsAmong xs y) xs ys moves (among-itself xs)) is
