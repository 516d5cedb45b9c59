-- Keys in order, each once, and their texts.
use Rattle.std.proofs.Common.{◌≡◌, ◌∙◌, ◌↔◌, ℕ, List, [], ◌∷◌, true, Equal, ap, is_eq, map, subst, sym}
use Rattle.std.proofs.lemmas.List.Elements.{All-cons, All-head, All-map, All-tail}
use Rattle.std.proofs.lemmas.List.Filters.{All-dedup}
use Rattle.std.proofs.lemmas.List.Kept.{Any-dedup, Contains-from_dedup, IsStrictlySortedBy-dedup}
use Rattle.std.proofs.lemmas.List.Sorted.{All-permutation, Contains-permutation, IsPermutation-sym}
use Rattle.std.proofs.Common.{arith, refl}
use Rattle.std.specs.Cmp.{eq_by_cmp_equiv}
use Rattle.std.specs.Cmp.Lexicographic.{slice_cmp}
use Rattle.std.specs.List.{All, AllByRecursion, Contains, dedup}
use Rattle.std.specs.List.Sorted.{IsPermutation, IsSorted, IsStrictlySortedBy}
use Rattle.std.specs.Ordering.{eq_by_cmp, nat_cmp, ordering_then}
use Rattle.std.specs.declared.cmp.Ordering.{Ordering}
use Rattle.std.specs.declared.cmp.Ordering.TheVariants.{Greater, Less}
use Rattle.npm_pick.specs.Kept.{IsInOrder, KeyValue, key_cmp}
use Rattle.npm_pick.specs.Private.Keeping.{IsKeyRead, key_order, key_total, key_value, texts_of}
use Rattle.npm_pick.specs.declared.key.Key.{Key}
use Rattle.npm_pick.specs.Lemmas.Mapped.{contains_mapped, mapped_contains}
use Rattle.npm_pick.specs.Lemmas.Readings.{exact}

all_unmapped : {X Y : Type 0} (f : X → Y) (P : Y → Type 0) (xs : List X) → All P (map f xs) → All (λ x. P (f x)) xs
all_unmapped f P [] all = λ k d small. absurd (omega (arith, small))
all_unmapped f P (x ∷ xs) all = All-cons (λ x. P (f x)) x xs (All-head P (f x) (map f xs) all)
    (all_unmapped f P xs (All-tail P (f x) (map f xs) all))

below_mapped : (a : Key) (keys : List Key) → AllByRecursion (λ b. key_order a b ≡ Less) keys
    → AllByRecursion (λ b. key_cmp (key_value a) b ≡ Less) (map key_value keys)
below_mapped a [] all = tt
below_mapped a (b ∷ keys) all = (all.0, below_mapped a keys all.1)

sorted_mapped : (keys : List Key) → IsStrictlySortedBy key_order keys → IsStrictlySortedBy key_cmp (map key_value keys)
unfolding IsStrictlySortedBy
sorted_mapped [] sorted = tt
sorted_mapped (a ∷ keys) sorted = (below_mapped a keys sorted.0, sorted_mapped keys sorted.1)

then_equal : (a b : Ordering) → is_eq (ordering_then a b) ≡ true → b ≡ Equal
then_equal Less b h = cc h
then_equal Greater b h = cc h
then_equal Equal Less h = cc h
then_equal Equal Greater h = cc h
then_equal Equal Equal h = refl

same_text : (a b : Key) → eq_by_cmp key_order a b ≡ true → a.text.now ≡ b.text.now
same_text a b same = exact a.text.now b.text.now (then_equal _ (slice_cmp nat_cmp a.text.now b.text.now) same)

module _ (keys sorted once : List Key) (moved : IsPermutation keys sorted) (up : IsSorted key_order sorted)
    (is : once ≡ dedup (eq_by_cmp key_order) sorted) where
  pub once_in_order : All IsKeyRead (map key_value keys) → IsInOrder (texts_of (map key_value once))
  once_in_order read = record {
    listed = map key_value once;
    texts = refl;
    read = rw is (All-map IsKeyRead key_value (dedup (eq_by_cmp key_order) sorted)
        (All-dedup (eq_by_cmp key_order) (λ k. IsKeyRead (key_value k)) sorted
        (All-permutation (λ k. IsKeyRead (key_value k)) keys sorted moved (all_unmapped key_value IsKeyRead keys read))));
    ordered = rw is (sorted_mapped (dedup (eq_by_cmp key_order) sorted)
        (IsStrictlySortedBy-dedup key_total (λ a b. refl) sorted up));
  }

  pub once_exact : (key : List ℕ) → Contains (texts_of (map key_value once)) key
      ↔ Contains (texts_of (map key_value keys)) key
  once_exact key = (
    (λ there.
        let value = contains_mapped (λ (k : KeyValue). k.text) (map key_value once) key there in
        let found = contains_mapped key_value once value.0 value.1 in
        let back : Contains keys found.0 = Contains-permutation sorted keys found.0 (IsPermutation-sym keys sorted moved)
        (Contains-from_dedup (eq_by_cmp key_order) sorted found.0
        (subst (λ (l : List Key). Contains l found.0) is found.1)) in
        mapped_contains (λ (k : KeyValue). k.text) (map key_value keys) value.0 key
        (mapped_contains key_value keys found.0 value.0 back found.2) value.2),
    (λ there.
        let value = contains_mapped (λ (k : KeyValue). k.text) (map key_value keys) key there in
        let found = contains_mapped key_value keys value.0 value.1 in
        let kept = Any-dedup (eq_by_cmp_equiv key_total) sorted found.0
        (Contains-permutation keys sorted found.0 moved found.1) in
        let stays : Contains once kept.1 =
        subst (λ (l : List Key). Contains l kept.1) (sym is) (kept.0, kept.2, kept.3) in
        let same : kept.1.text.now ≡ key =
        sym (same_text found.0 kept.1 kept.4) ∙ ap (λ (k : KeyValue). k.text) found.2 ∙ value.2 in
        mapped_contains (λ (k : KeyValue). k.text) (map key_value once) (key_value kept.1) key
        (mapped_contains key_value once kept.1 (key_value kept.1) stays refl) same),
  )
