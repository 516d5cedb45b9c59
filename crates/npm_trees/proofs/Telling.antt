-- What is told of optional dependencies.
use Rattle.std.proofs.Common.{◌≡◌, ◌≢◌, ◌↔◌, ◌<◌, ℕ, zero, suc, List, [], ◌∷◌, All, Bool, Option, None, Some, arith, false, inl, inr, is_some, length, not, refl, slice_get, true}
use Rattle.std.proofs.lemmas.List.Elements.{All-contains, Contains-get_or}
use Rattle.std.proofs.lemmas.Option.{slice_get_within}
use Rattle.std.specs.List.{Contains}
use Rattle.std.specs.Option.{IsSomeAnd}
use Rattle.npm_trees.specs.LeftOut.{AreLeftOut, IsLeftOut}
use Rattle.npm_trees.specs.Places.{start_of}
use Rattle.npm_trees.specs.Private.Folders.{IsOnlySeen}
use Rattle.npm_trees.specs.Private.Reaching.{AreAdded, Has}
use Rattle.npm_trees.specs.declared.tree.Kind.TheVariants.{Optional}
use Rattle.npm_trees.specs.declared.found.Found.{Found}
use Rattle.npm_trees.specs.declared.tree.Ask.{Ask}
use Rattle.npm_trees.specs.declared.tree.Place.{Place}
use Rattle.npm_trees.proofs.Reaching.{none_in}

never_none : {X : Type 0} (xs : List X) (k : ℕ) → k < length xs → slice_get xs k ≡ None → ⊥
never_none [] k below none = omega arith
never_none (x ∷ xs) zero below none = cc none
never_none (x ∷ xs) (suc k) below none = never_none xs k (omega arith) none

some_within : {X : Type 0} (P : X → Type 0) (xs : List X) (k : ℕ) → IsSomeAnd (slice_get xs k) P → k < length xs
some_within {X} P xs k is = by (slice_get xs k) refl where
  by : (o : Option X) → slice_get xs k ≡ o → k < length xs
  by None none = absurd (rw none at is)
  by (Some x) there = slice_get_within xs k x there

module _ (places : List Place) (asks : List Ask) (left_out : List ℕ) where
  pub told_below : AreLeftOut places asks left_out → All (λ number. number < length asks) left_out
  told_below are k d below =
      some_within (IsLeftOut places) asks _ ((are _).0 (Contains-get_or left_out k d below))

  module _ (below : All (λ number. number < length asks) left_out)
      (all : (k : ℕ) (ask : Ask) → slice_get asks k ≡ Some ask → Contains left_out k ↔ IsLeftOut places ask) (number : ℕ) where
    to_ask : (o : Option Ask) → slice_get asks number ≡ o → Contains left_out number → IsSomeAnd o (IsLeftOut places)
    to_ask None none there = absurd (never_none asks number (All-contains (λ k. k < length asks) left_out number below there) none)
    to_ask (Some ask) is there = (all number ask is).0 there

    from_ask : (o : Option Ask) → slice_get asks number ≡ o → IsSomeAnd o (IsLeftOut places) → Contains left_out number
    from_ask None none is_left = absurd is_left
    from_ask (Some ask) is is_left = (all number ask is).1 is_left

    pub all_told : Contains left_out number ↔ IsSomeAnd (slice_get asks number) (IsLeftOut places)
    all_told = (to_ask (slice_get asks number) refl, from_ask (slice_get asks number) refl)

  pub told_at : (k : ℕ) (ask : Ask) → slice_get asks k ≡ Some ask → AreLeftOut places asks left_out → Contains left_out k ↔ IsLeftOut places ask
  told_at k ask is are = (λ there. rw is at ((are k).0 there), λ is_left. (are k).1 (rw is is_left))

-- two answers to one question, or to two
pub same_answers : {P Q : Type 0} (a b : Bool) → (a ≡ true) ↔ P → (b ≡ true) ↔ Q → a ≡ b → P ↔ Q
same_answers a b of_a of_b same = (λ p. of_b.0 (cc (same, of_a.1 p)), λ q. of_a.0 (cc (same, of_b.1 q)))

pub other_answers : {P Q : Type 0} (a b : Bool) → (a ≡ true) ↔ P → (b ≡ true) ↔ Q → a ≢ b → P ↔ Q → ⊥
other_answers true true of_a of_b differ both = differ refl
other_answers true false of_a of_b differ both = let never : false ≡ true = of_b.1 (both.0 (of_a.0 refl)) in cc never
other_answers false true of_a of_b differ both = let never : false ≡ true = of_a.1 (both.1 (of_b.0 refl)) in cc never
other_answers false false of_a of_b differ both = differ refl

-- what was found of these numbers alone
pub told_is : (xs : List ℕ) (a b : Found) → a.order.items ≡ [] → AreAdded (Contains xs) a b → (k : ℕ) → Has b k ↔ Contains xs k
told_is xs a b empty added k = (
  (λ has. elim (added.only k has) [ inl before ↦ absurd (none_in k (rw empty at before)) | inr is ↦ is ]),
  (λ is. added.all k is),
)

-- the answers about one dependency
module _ (places : List Place) (left_out : List ℕ) (a b : Found) (empty : a.order.items ≡ []) (added : AreAdded (Contains left_out) a b)
    (k : ℕ) (ask : Ask) (is_told is_left : Bool) (told : (is_told ≡ true) ↔ Has b k) (left : (is_left ≡ true) ↔ IsLeftOut places ask) where
  found_is : (is_told ≡ true) ↔ Contains left_out k
  found_is = let both = told_is left_out a b empty added k in ((λ is. both.0 (told.0 is)), (λ is. told.1 (both.1 is)))

  pub same_at : is_told ≡ is_left → Contains left_out k ↔ IsLeftOut places ask
  same_at same = same_answers is_told is_left found_is left same

  pub other_at : is_told ≢ is_left → Contains left_out k ↔ IsLeftOut places ask → ⊥
  other_at differ both = other_answers is_told is_left found_is left differ both

-- by what is seen
pub left_by : (places : List Place) (ask : Ask) (found : Option ℕ) → IsOnlySeen places ask.name.now (start_of places ask) found
    → ask.bundled ≡ false → ask.kind ≡ Optional → (b : Bool) → is_some found ≡ not b → (b ≡ true) ↔ IsLeftOut places ask
left_by places ask None only free kind true is = ((λ h. record { optional = kind; unbundled = free; unseen = only.seen }), (λ w. refl))
left_by places ask None only free kind false is = absurd (cc is)
left_by places ask (Some number) only free kind true is = absurd (cc is)
left_by places ask (Some number) only free kind false is =
    ((λ h. absurd (cc h)), (λ w. let same = only.only None w.unseen in cc same))
