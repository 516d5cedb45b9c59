-- Texts in order, each once.
use Rattle.std.proofs.Common.{◌≡◌, ◌∙◌, ◌↔◌, ℕ, List, [], ◌∷◌, true, Global, String, map, string_bytes, subst, sym}
use Rattle.std.proofs.lemmas.List.Kept.{Any-dedup, Contains-from_dedup, IsStrictlySortedBy-dedup}
use Rattle.std.proofs.lemmas.List.Sorted.{Contains-permutation, IsPermutation-sym}
use Rattle.std.proofs.lemmas.Slice.Eq.{bytes_eq-Decides}
use Rattle.std.specs.Cmp.Lexicographic.{slice_cmp, texts_ties}
use Rattle.std.specs.List.{AllByRecursion, Contains, dedup}
use Rattle.std.specs.List.Sorted.{IsPermutation, IsSorted, IsStrictlySortedBy}
use Rattle.std.specs.Ordering.{nat_cmp}
use Rattle.std.specs.String.{string_cmp, string_cmp_total, string_eq, string_eq_equiv}
use Rattle.std.specs.declared.cmp.Ordering.TheVariants.{Less}
use Rattle.npm_pick.specs.Lemmas.Mapped.{contains_mapped, mapped_contains}

below_mapped : (a : String Global) (texts : List (String Global)) → AllByRecursion (λ b. string_cmp a b ≡ Less) texts
    → AllByRecursion (λ b. slice_cmp nat_cmp (string_bytes a) b ≡ Less) (map string_bytes texts)
below_mapped a [] all = tt
below_mapped a (b ∷ texts) all = (all.0, below_mapped a texts all.1)

sorted_mapped : (texts : List (String Global)) → IsStrictlySortedBy string_cmp texts
    → IsStrictlySortedBy (slice_cmp nat_cmp) (map string_bytes texts)
unfolding IsStrictlySortedBy
sorted_mapped [] sorted = tt
sorted_mapped (a ∷ texts) sorted = (below_mapped a texts sorted.0, sorted_mapped texts sorted.1)

same_text : (a b : String Global) → string_eq a b ≡ true → string_bytes a ≡ string_bytes b
same_text a b same = (bytes_eq-Decides (string_bytes a) (string_bytes b)).0 same

module _ (texts sorted once : List (String Global)) (moved : IsPermutation texts sorted)
    (up : IsSorted string_cmp sorted) (is : once ≡ dedup string_eq sorted) where
  pub once_in_order : IsStrictlySortedBy (slice_cmp nat_cmp) (map string_bytes once)
  once_in_order = rw is (sorted_mapped (dedup string_eq sorted)
      (IsStrictlySortedBy-dedup string_cmp_total (λ a b. texts_ties (string_bytes a) (string_bytes b)) sorted up))

  pub once_exact : (text : List ℕ) → Contains (map string_bytes once) text ↔ Contains (map string_bytes texts) text
  once_exact text = (
    (λ there.
        let found = contains_mapped string_bytes once text there in
        let back : Contains texts found.0 = Contains-permutation sorted texts found.0
        (IsPermutation-sym texts sorted moved)
        (Contains-from_dedup string_eq sorted found.0
        (subst (λ (l : List (String Global)). Contains l found.0) is found.1)) in
        mapped_contains string_bytes texts found.0 text back found.2),
    (λ there.
        let found = contains_mapped string_bytes texts text there in
        let kept = Any-dedup string_eq_equiv sorted found.0 (Contains-permutation texts sorted found.0 moved found.1) in
        let stays : Contains once kept.1 =
        subst (λ (l : List (String Global)). Contains l kept.1) (sym is) (kept.0, kept.2, kept.3) in
        mapped_contains string_bytes once kept.1 text stays (sym (same_text found.0 kept.1 kept.4) ∙ found.2)),
  )
