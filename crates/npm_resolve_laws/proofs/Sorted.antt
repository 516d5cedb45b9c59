-- The first element of a sorted list that has a property.
use Rattle.std.proofs.Common.{◌≡◌, ◌∙◌, ◌≤◌, ◌<◌, ℕ, zero, suc, Bool, true, false, List, [], ◌∷◌, ◌++◌, ap, arith, filter, get_or, length, refl, sym, subst}
use Rattle.std.proofs.lemmas.List.Elements.{All-from_recursion, filter-append, recursion_from_All}
use Rattle.std.proofs.lemmas.List.Sorted.{All-permutation, sorted_far}
use Rattle.std.specs.Cmp.{IsStrictWeakOrder}
use Rattle.std.specs.List.{AllByRecursion}
use Rattle.std.specs.List.Sorted.{IsPermutation, IsSortedBy, IsStableBy, ties}
use Rattle.semver_cuts.specs.Lemmas.Lists.{all_join, all_map}

module _ {X : Type 0} (lt : X → X → Bool) (order : IsStrictWeakOrder lt) where
  -- no element is less than one before it
  abbrev pub IsUp : List X → Type 0
  IsUp [] = Unit {0}
  IsUp (x ∷ xs) = AllByRecursion (λ y. lt y x ≡ false) xs × IsUp xs

  abbrev IsFar : List X → Type 0
  IsFar xs = (i j : ℕ) (d : X) → i ≤ j → j < length xs → lt (get_or xs j d) (get_or xs i d) ≡ false

  from_far : (xs : List X) → IsFar xs → IsUp xs
  from_far [] far = tt
  from_far (x ∷ xs) far = (
    recursion_from_All (λ y. lt y x ≡ false) xs (λ k d below. far zero (suc k) d (omega arith) (omega arith)),
    from_far xs (λ i j d before inside. far (suc i) (suc j) d (omega arith) (omega arith)),
  )

  pub up_of : (xs : List X) → IsSortedBy lt xs → IsUp xs
  up_of xs sorted = from_far xs (sorted_far lt order xs sorted)

  untied : (c x : X) (above : lt c x ≡ true) (y : X) → lt y x ≡ false → ties lt c y ≡ false
  untied c x above y far = by_less (lt c y) refl where
    by_less : (b : Bool) → lt c y ≡ b → ties lt c y ≡ false
    by_less true less = rw less refl
    by_less false less = cc (above, order.chain c y x less far)

  -- nothing that ties with c is behind what is above c
  none_tied : (c x : X) → lt c x ≡ true → (xs : List X) → AllByRecursion (λ y. lt y x ≡ false) xs → filter (ties lt c) xs ≡ []
  none_tied c x above [] far = refl
  none_tied c x above (y ∷ xs) far = rw (untied c x above y far.0) (none_tied c x above xs far.1)

  module _ (P : X → Type 0) where
    -- c is there, and nothing before it has the property
    abbrev pub IsParted : List X → X → Type 0
    IsParted xs c = (before : List X) × (after : List X) × (xs ≡ before ++ c ∷ after) × AllByRecursion (λ x. ¬ P x) before

    one_more : (x c : X) (xs : List X) → ¬ P x → IsParted xs c → IsParted (x ∷ xs) c
    one_more x c xs none parted = (x ∷ parted.0, parted.1, ap (λ l. x ∷ l) parted.2, (none, parted.3))

    no_end : (before after : List X) (c : X) → [] ≡ before ++ c ∷ after → ⊥
    no_end [] after c is = cc is
    no_end (x ∷ before) after c is = cc is

    pub parted_at : (c : X) (xs front back : List X) → IsUp xs → filter (ties lt c) xs ≡ front ++ c ∷ back
        → AllByRecursion (λ x. ¬ P x) front → AllByRecursion (λ x. lt x c ≡ true → ¬ P x) xs → IsParted xs c
    parted_at c [] front back up is none below = absurd (no_end front back c is)
    parted_at c (x ∷ xs) front back up is none below =
        by_tie (lt c x) (lt x c) refl refl front is none (λ more tied rest. parted_at c xs more back up.1 tied rest below.1)
      where
        by_tie : (above less : Bool) → lt c x ≡ above → lt x c ≡ less → (front : List X)
            → filter (ties lt c) (x ∷ xs) ≡ front ++ c ∷ back → AllByRecursion (λ x. ¬ P x) front
            → ((more : List X) → filter (ties lt c) xs ≡ more ++ c ∷ back → AllByRecursion (λ x. ¬ P x) more → IsParted xs c)
            → IsParted (x ∷ xs) c
        by_tie true less is_above is_less front is none on =
            absurd (no_end front back c (sym (none_tied c x is_above xs up.0) ∙ (rw is_above at is)))
        by_tie false true is_above is_less front is none on =
            one_more x c xs (below.0 is_less) (on front (rw (is_above, is_less) at is) none)
        by_tie false false is_above is_less [] is none on =
            let same : x ∷ filter (ties lt c) xs ≡ c ∷ back = rw (is_above, is_less) at is in
            ([], xs, (let one : x ≡ c = cc same in ap (λ y. y ∷ xs) one), tt)
        by_tie false false is_above is_less (y ∷ front) is none on =
            let same : x ∷ filter (ties lt c) xs ≡ y ∷ (front ++ c ∷ back) = rw (is_above, is_less) at is in
            let one : x ≡ y = cc same in
            one_more x c xs (subst (λ z. ¬ P z) (sym one) none.0) (on front (cc same) none.1)

    -- what is below c does not tie with it
    none_left : (c : X) (xs : List X) → AllByRecursion (λ x. P x → lt c x ≡ true) xs → AllByRecursion (λ x. ¬ P x) (filter (ties lt c) xs)
    none_left c [] all = tt
    none_left c (x ∷ xs) all = by_less (lt c x) (lt x c) refl refl (none_left c xs all.1) where
      by_less : (below above : Bool) → lt c x ≡ below → lt x c ≡ above → AllByRecursion (λ x. ¬ P x) (filter (ties lt c) xs)
          → AllByRecursion (λ x. ¬ P x) (filter (ties lt c) (x ∷ xs))
      by_less true above is_below is_above rest = rw is_below rest
      by_less false true is_below is_above rest = rw (is_below, is_above) rest
      by_less false false is_below is_above rest = rw (is_below, is_above) ((λ has. cc (is_below, all.0 has)), rest)

    never_less : (c : X) → lt c c ≡ false
    never_less c = by_less (lt c c) refl where
      by_less : (b : Bool) → lt c c ≡ b → lt c c ≡ false
      by_less true less = order.one_way c c less
      by_less false less = less

    -- Before the sort c has the property, what stands before it and has it is above c, and nothing behind it that is below c has it. So after
    -- a stable sort c is the first that has it.
    pub first_of_sorted : (all sorted front back : List X) (c : X) → IsPermutation all sorted → IsSortedBy lt sorted
        → IsStableBy lt all sorted → all ≡ front ++ c ∷ back → AllByRecursion (λ x. P x → lt c x ≡ true) front
        → AllByRecursion (λ x. lt x c ≡ true → ¬ P x) back → IsParted sorted c
    first_of_sorted all sorted front back c same up stable parts above below =
        let Low : X → Type 0 = λ x. lt x c ≡ true → ¬ P x in
        let low_all : AllByRecursion Low (front ++ c ∷ back) = all_join Low front back c
        (all_map (λ x. P x → lt c x ≡ true) Low (λ x high less has. cc (less, order.one_way c x (high has))) front above)
        (λ less. cc (less, never_less c)) below in
        let low : AllByRecursion Low sorted = recursion_from_All Low sorted
        (All-permutation Low all sorted same (All-from_recursion Low all (subst (AllByRecursion Low) (sym parts) low_all))) in
        let tied : filter (ties lt c) (c ∷ back) ≡ c ∷ filter (ties lt c) back = rw (never_less c) refl in
        let cut : filter (ties lt c) sorted ≡ filter (ties lt c) front ++ c ∷ filter (ties lt c) back = stable c
        ∙ ap (filter (ties lt c)) parts ∙ filter-append (ties lt c) front (c ∷ back)
        ∙ ap (λ l. filter (ties lt c) front ++ l) tied in
        parted_at c sorted (filter (ties lt c) front) (filter (ties lt c) back) (up_of sorted up) cut (none_left c front above) low
