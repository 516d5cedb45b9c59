-- Facts of some element and of each element of a list.
use Rattle.std.specs.Prelude.{◌≡◌, ◌⊎◌, ◌<◌, ◌+◌, ℕ, zero, suc, List, [], ◌∷◌, ◌++◌, get_or, length, take}
use mathlib.Core.Path.{subst}
use mathlib.Core.Logic.{inl, inr}
use Rattle.std.specs.List.{AllByRecursion, flat_map}
use Rattle.std.proofs.Common.{arith}
use Rattle.semver_cuts.specs.SpanLists.{AnyByRecursion}

module _ {X : Type 0} (P : X → Type 0) where
  -- what is true of every value is true of each element
  pub all-always : ((x : X) → P x) → (xs : List X) → AllByRecursion P xs
  all-always f [] = tt
  all-always f (x ∷ xs) = (f x, all-always f xs)

  -- what is true of each element of two lists is true of each element of the two together
  pub all-append : (xs ys : List X) → AllByRecursion P xs → AllByRecursion P ys → AllByRecursion P (xs ++ ys)
  all-append [] ys a b = b
  all-append (x ∷ xs) ys a b = (a.0, all-append xs ys a.1 b)

  -- one more element at the end
  pub all_push : (xs : List X) (x : X) → AllByRecursion P xs → P x → AllByRecursion P (xs ++ x ∷ [])
  all_push [] x a p = (p, tt)
  all_push (y ∷ xs) x a p = (a.0, all_push xs x a.1 p)

  -- an element in the middle of a list
  pub all_middle : (before after : List X) (x : X) → AllByRecursion P (before ++ x ∷ after) → P x
  all_middle [] after x a = a.0
  all_middle (y ∷ before) after x a = all_middle before after x a.1

  -- a list from the elements before one of its elements, this one, and those after it
  pub all_join : (before after : List X) (x : X) → AllByRecursion P before → P x → AllByRecursion P after
      → AllByRecursion P (before ++ x ∷ after)
  all_join [] after x a p b = (p, b)
  all_join (y ∷ before) after x a p b = (a.0, all_join before after x a.1 p b)

  module _ (Q : X → Type 0) where
    -- what follows for every value follows for each element
    pub all_map : ((x : X) → P x → Q x) → (xs : List X) → AllByRecursion P xs → AllByRecursion Q xs
    all_map f [] a = tt
    all_map f (x ∷ xs) a = (f x a.0, all_map f xs a.1)

    -- what follows from two facts of every value follows for each element
    pub all_both : (R : X → Type 0) → ((x : X) → P x → Q x → R x) → (xs : List X)
        → AllByRecursion P xs → AllByRecursion Q xs → AllByRecursion R xs
    all_both R f [] a b = tt
    all_both R f (x ∷ xs) a b = (f x a.0 b.0, all_both R f xs a.1 b.1)

  -- some element of the first of two lists
  pub any-left : (xs ys : List X) → AnyByRecursion P xs → AnyByRecursion P (xs ++ ys)
  any-left [] ys a = absurd a
  any-left (x ∷ xs) ys (inl p) = inl p
  any-left (x ∷ xs) ys (inr a) = inr (any-left xs ys a)

  -- and of the second
  pub any-right : (xs ys : List X) → AnyByRecursion P ys → AnyByRecursion P (xs ++ ys)
  any-right [] ys a = a
  any-right (x ∷ xs) ys a = inr (any-right xs ys a)

  -- some element of two lists is one of the first or of the second
  pub any-either : (xs ys : List X) → AnyByRecursion P (xs ++ ys) → AnyByRecursion P xs ⊎ AnyByRecursion P ys
  any-either [] ys a = inr a
  any-either (x ∷ xs) ys (inl p) = inl (inl p)
  any-either (x ∷ xs) ys (inr a) = grind (arith, any-either xs ys a)

  -- the element at a place
  pub any-at : (xs : List X) (k : ℕ) (x : X) → k < length xs → x ≡ get_or xs k x → P x → AnyByRecursion P xs
  any-at [] k x lt e p = absurd (omega arith)
  any-at (y ∷ xs) zero x lt e p = inl (subst P e p)
  any-at (y ∷ xs) (suc k) x lt e p = inr (any-at xs k x (omega arith) e p)

  passed_one : (xs : List X) (k : ℕ) (x : X) → k < length xs → x ≡ get_or xs k x
      → ¬ AnyByRecursion P (take k xs) → ¬ P x → ¬ AnyByRecursion P (take (suc k) xs)
  passed_one [] k x lt e none other = absurd (omega arith)
  passed_one (y ∷ xs) zero x lt e none other = grind arith
  passed_one (y ∷ xs) (suc k) x lt e none other = λ some. elim some [
    | inl here ↦ none (inl here)
    | inr there ↦ passed_one xs k x (omega arith) e (λ earlier. none (inr earlier)) other there
  ]

  -- if it is true of no element so far, and not of the next one, it is true of none up to there
  pub none-more : (xs : List X) (k : ℕ) (x : X) → k < length xs → x ≡ get_or xs k x
      → ¬ AnyByRecursion P (take k xs) → ¬ P x → ¬ AnyByRecursion P (take (k + 1) xs)
  none-more xs k x lt e none other = grind (arith, passed_one)

module _ {X : Type 0} (P Q : X → Type 0) where
  -- what follows for each element follows for some element
  pub any-map : ((x : X) → P x → Q x) → (xs : List X) → AnyByRecursion P xs → AnyByRecursion Q xs
  any-map f [] a = a
  any-map f (x ∷ xs) (inl p) = inl (f x p)
  any-map f (x ∷ xs) (inr a) = inr (any-map f xs a)

-- a list of the elements of several lists, one after another
module _ {X Y : Type 0} (f : X → List Y) (P : Y → Type 0) where
  pub all-flat_map : (xs : List X) → AllByRecursion (λ (x : X). AllByRecursion P (f x)) xs
      → AllByRecursion P (flat_map f xs)
  all-flat_map [] all = tt
  all-flat_map (x ∷ xs) all = all-append P (f x) (flat_map f xs) all.0 (all-flat_map xs all.1)

  pub any-flat_map : (xs : List X) → AnyByRecursion P (flat_map f xs)
      → AnyByRecursion (λ (x : X). AnyByRecursion P (f x)) xs
  any-flat_map [] some = some
  any-flat_map (x ∷ xs) some = elim (any-either P (f x) (flat_map f xs) some) [
    | inl here ↦ inl here
    | inr there ↦ inr (any-flat_map xs there)
  ]

  pub flat_map-any : (xs : List X) → AnyByRecursion (λ (x : X). AnyByRecursion P (f x)) xs
      → AnyByRecursion P (flat_map f xs)
  flat_map-any [] some = some
  flat_map-any (x ∷ xs) (inl here) = any-left P (f x) (flat_map f xs) here
  flat_map-any (x ∷ xs) (inr there) = any-right P (f x) (flat_map f xs) (flat_map-any xs there)

-- an element of which a fact is true
pub any-found : {X : Type 0} (P : X → Type 0) (xs : List X) → AnyByRecursion P xs → (x : X) × P x
any-found P [] some = absurd some
any-found P (x ∷ xs) (inl here) = (x, here)
any-found P (x ∷ xs) (inr there) = any-found P xs there
