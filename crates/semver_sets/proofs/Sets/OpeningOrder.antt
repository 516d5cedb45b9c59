-- Openings in the order of their triples: those of one triple are together.
use Rattle.std.proofs.lemmas.Grind.{common_steps}
use Rattle.std.proofs.Common.{◌≡◌, ℕ, zero, suc, ◌≤◌, ◌&&◌, Bool, true, false, List, [], ◌∷◌, ◌++◌, length, take, drop}
use Rattle.std.proofs.Common.{◌+◌, ◌<◌, get_or, arith, sym, ap, ◌∙◌, refl}
use Rattle.std.specs.Prelude.{filter, not}
use Rattle.std.specs.List.{AllByRecursion, AllWithin}
use Rattle.std.specs.List.Sorted.{IsPartitionedBy, IsPartitionPoint, IsSortedByKey, IsNonDecreasingBy, ties}
use Rattle.std.specs.Cmp.{unsigned_ties}
use Rattle.std.specs.Ordering.{is_eq, is_le, is_lt, ordering_index, ordering_reverse}
use Rattle.std.specs.declared.cmp.Ordering.{Ordering}
use Rattle.std.proofs.lemmas.List.{append-nil, get_or_default, take-append-drop, take_more}
use Rattle.std.proofs.lemmas.List.Elements.{filter-append}
use Rattle.std.proofs.lemmas.List.Sorted.{searchable_from_sorted}
use Rattle.semver_cuts.specs.Lemmas.Lists.{all-append}
use Rattle.semver_texts.specs.Lemmas.Public.{triple_total}
use Rattle.semver_texts.specs.Version.{VersionValue}
use Rattle.semver_sets.specs.Private.SearchViews.{is_opening_of, same_triples}
use Rattle.semver_texts.specs.Triple.{triple_cmp, triple_of}
use Rattle.semver_sets.specs.declared.set_list.opened.Opening.{Opening}
use Rattle.semver_texts.specs.declared.triple.Triple.{Triple}

-- ---- triples

pub same-equal : (t u : Triple) → same_triples t u ≡ is_eq (triple_cmp t u)
same-equal t u = grind (arith, unsigned_ties)

tied : (r : Ordering) → (not (is_lt (ordering_reverse r)) && not (is_lt r)) ≡ is_eq r
tied r = grind arith

pub ties-same : (v : VersionValue) (place : ℕ) (o : Opening)
    → ties (λ x y. is_lt (triple_cmp x.triple y.triple))
    (record { triple = triple_of v; place = place }) o ≡ is_opening_of v o
ties-same v place o = grind (arith, common_steps, triple_total, tied, same-equal)

-- ---- lists

module _ {X : Type 0} (P : X → Type 0) where
  taken : (xs : List X) (i : ℕ) → i ≤ length xs → AllWithin P xs 0 i → AllByRecursion P (take i xs)
  taken [] zero most w = tt
  taken [] (suc i) most w = tt
  taken (x ∷ xs) zero most w = tt
  taken (x ∷ xs) (suc i) most w =
      (w 0 x (omega arith) (omega arith), taken xs i (omega arith) (λ k d l h. w (suc k) d (omega arith) (omega arith)))

  left : (xs : List X) (i : ℕ) → AllWithin P xs i (length xs) → AllByRecursion P (drop i xs)
  left [] zero w = tt
  left [] (suc i) w = tt
  left (x ∷ xs) zero w =
      (w 0 x (omega arith) (omega arith), left xs zero (λ k d l h. w (suc k) d (omega arith) (omega arith)))
  left (x ∷ xs) (suc i) w = left xs i (λ k d l h. w (suc k) d (omega arith) (omega arith))

  all-taken : (xs : List X) (i : ℕ) → AllByRecursion P xs → AllByRecursion P (take i xs)
  all-taken [] zero all = tt
  all-taken [] (suc i) all = tt
  all-taken (x ∷ xs) zero all = tt
  all-taken (x ∷ xs) (suc i) all = (all.0, all-taken xs i all.1)

-- without the first elements none that passes comes after one that fails either
pub parted-drop : {X : Type 0} (p : X → Bool) (i : ℕ) (xs : List X) → IsPartitionedBy p xs
    → IsPartitionedBy p (drop i xs)
parted-drop p zero [] h = h
parted-drop p zero (x ∷ xs) h = h
parted-drop p (suc i) [] h = h
parted-drop p (suc i) (x ∷ xs) h =
    parted-drop p i xs (λ a b d below within e. h (suc a) (suc b) d (omega arith) (omega arith) e)

-- ---- a list of which the first elements pass

module _ {X : Type 0} (p : X → Bool) (xs : List X) where
  -- one more passes
  pub passed-more : (k : ℕ) (d : X) → k < length xs → p (get_or xs k d) ≡ true
      → AllByRecursion (λ x. p x ≡ true) (take k xs) → AllByRecursion (λ x. p x ≡ true) (take (k + 1) xs)
  passed-more k d within here before =
      grind (
        arith,
        take_more xs k d within,
        all-append (λ x. p x ≡ true) (take k xs) (get_or xs k d ∷ []) before (here, tt),
      )

  not-true : (b : Bool) → ¬ (b ≡ true) → b ≡ false
  not-true b h1 = grind arith

  -- none passes from the first that does not
  pub failed-from : (k : ℕ) (d : X) → k < length xs → IsPartitionedBy p xs → p (get_or xs k d) ≡ false
      → AllByRecursion (λ x. p x ≡ false) (drop k xs)
  failed-from k d within parted here =
      left (λ x. p x ≡ false) xs k (λ j e from below. not-true (p (get_or xs j e)) (λ passes.
      absurd (cc (parted k j e from below passes, ap p (get_or_default xs k d e within), here))))

-- ---- those of one triple

module _ (t : Triple) where
  abbrev pub is_below : Opening → Bool
  is_below o = is_lt (triple_cmp o.triple t)

  abbrev pub is_at_most : Opening → Bool
  is_at_most o = is_le (triple_cmp o.triple t)

  abbrev is_same : Opening → Bool
  is_same o = same_triples o.triple t

  below-before : (r s : Ordering) → ordering_index r ≤ ordering_index s → is_lt s ≡ true → is_lt r ≡ true
  below-before r s h1 h2 = grind arith

  at_most-before : (r s : Ordering) → ordering_index r ≤ ordering_index s → is_le s ≡ true → is_le r ≡ true
  at_most-before r s h1 h2 = grind arith

  module _ (xs : List Opening) (sorted : IsSortedByKey (λ (o : Opening). o.triple) triple_cmp xs) where
    rises : IsNonDecreasingBy (λ (o : Opening). ordering_index (triple_cmp o.triple t)) xs
    rises = searchable_from_sorted triple_total (λ (o : Opening). o.triple) xs t sorted

    pub parted-below : IsPartitionedBy is_below xs
    parted-below i j d most within e =
        grind (
          arith,
          below-before (triple_cmp (get_or xs i d).triple t) (triple_cmp (get_or xs j d).triple t) (rises i
              j d most within) e,
        )

    pub parted-at_most : IsPartitionedBy is_at_most xs
    parted-at_most i j d most within e =
        grind (
          arith,
          at_most-before (triple_cmp (get_or xs i d).triple t) (triple_cmp (get_or xs j d).triple t) (rises
              i j d most within) e,
        )

  not-below : (r : Ordering) → is_lt r ≡ true → is_eq r ≡ false
  not-below r h1 = grind arith

  not-above : (r : Ordering) → is_le r ≡ false → is_eq r ≡ false
  not-above r h1 = grind arith

  between : (r : Ordering) → is_lt r ≡ false → is_le r ≡ true → is_eq r ≡ true
  between r h1 h2 = grind arith

  alike : (o : Opening) → is_same o ≡ is_eq (triple_cmp o.triple t)
  alike o = same-equal o.triple t

  none-of : (xs : List Opening) → AllByRecursion (λ o. is_below o ≡ true) xs → filter is_same xs ≡ []
  none-of [] all = refl
  none-of (o ∷ xs) all = simp (alike o ∙ not-below (triple_cmp o.triple t) all.0) (none-of xs all.1)

  none-above : (xs : List Opening) → AllByRecursion (λ o. is_at_most o ≡ false) xs → filter is_same xs ≡ []
  none-above [] all = refl
  none-above (o ∷ xs) all = simp (alike o ∙ not-above (triple_cmp o.triple t) all.0) (none-above xs all.1)

  all-of : (xs : List Opening) → AllByRecursion (λ o. is_below o ≡ false) xs
      → AllByRecursion (λ o. is_at_most o ≡ true) xs
      → filter is_same xs ≡ xs
  all-of [] low high = refl
  all-of (o ∷ xs) low high = grind (arith, alike, between, all-of xs low.1 high.1)

  module _ (xs : List Opening) (i j : ℕ) (most : i ≤ length xs)
      (first : IsPartitionPoint (λ o. is_below o ≡ true) (λ o. is_below o ≡ false) xs i)
      (high : AllByRecursion (λ o. is_at_most o ≡ true) (take j (drop i xs)))
      (past : AllByRecursion (λ o. is_at_most o ≡ false) (drop j (drop i xs))) where
    -- from the first that is not below to the last that is not above
    pub found-openings : take j (drop i xs) ≡ filter is_same xs
    found-openings =
        let others : List Opening = drop i xs in
        let low = taken (λ o. is_below o ≡ true) xs i most first.0 in
        let from = left (λ o. is_below o ≡ false) xs i first.1 in
        let here = all-of (take j others) (all-taken (λ o. is_below o ≡ false) others j from) high in
        let whole = ap (filter is_same) (take-append-drop i xs) in
        let rest = ap (filter is_same) (take-append-drop j others) in
        sym (sym whole ∙ filter-append is_same (take i xs) others
        ∙ ap (λ (l : List Opening). l ++ filter is_same others) (none-of (take i xs) low)
        ∙ sym rest ∙ filter-append is_same (take j others) (drop j others)
        ∙ ap (λ (l : List Opening). l ++ filter is_same (drop j others)) here
        ∙ ap (λ (l : List Opening). take j others ++ l) (none-above (drop j others) past)
        ∙ append-nil (take j others))
