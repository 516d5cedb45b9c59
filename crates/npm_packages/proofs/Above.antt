-- The packages above those that are passed: one more pair of a name and a folder.
use Rattle.std.proofs.Common.{◌≡◌, ◌∙◌, ◌⊎◌, ◌&&◌, ℕ, List, [], ◌∷◌, ◌++◌, Bool, true, false, cond, Option, Some, None, Ordering}
use Rattle.std.proofs.Common.{Less, Equal, Greater, bytes_eq, inl, inr, is_eq, nat_cmp, refl, sym}
use Rattle.std.proofs.lemmas.Cmp.{nat_cmp_total, nat_list_cmp_total, on_total, then_total, tied_itself}
use Rattle.std.proofs.lemmas.Map.{lookup-none}
use Rattle.std.proofs.lemmas.Map.Entries.{none_below_head}
use Rattle.std.proofs.lemmas.Slice.Eq.{bytes_eq-Decides}
use Rattle.std.specs.BTreeMap.{is_at}
use Rattle.std.specs.Cmp.{IsTotalOrder}
use Rattle.std.specs.Cmp.Lexicographic.{slice_cmp}
use Rattle.std.specs.List.{AllByRecursion}
use Rattle.std.specs.List.Sorted.{IsStrictlySortedBy}
use Rattle.std.specs.Map.{keys_of, lookup}
use Rattle.std.specs.Option.{IfSome, IsSome}
use Rattle.std.specs.Ordering.{is_gt, ordering_reverse}
use Rattle.npm_packages.specs.Index.{HasAbove, IsNearestOf, IsOver, Places, at_place}
use Rattle.npm_packages.specs.Private.Index.{IsUpTo}
use Rattle.npm_packages.specs.declared.index.Hit.{Hit}
use Rattle.npm_packages.proofs.Indexing.{same_keys}
use Rattle.npm_packages.proofs.LastPlaces.{Key, key_cmp, key_of, of_one_name}

-- ---- keys

key_total : IsTotalOrder key_cmp
key_total = then_total (on_total (λ k. k.0.now) nat_list_cmp_total) (on_total (λ k. k.1.now) nat_list_cmp_total)

-- the key is that of the name and the folder
abbrev pub is_key : Key → (name folder : List ℕ) → Bool
is_key key name folder = is_eq (key_cmp (key_of name folder) key)

key_is : (key : Key) (name folder : List ℕ) → is_key key name folder ≡ true
    → (name ≡ key.0.now) × (folder ≡ key.1.now)
key_is key name folder is = by_tests (bytes_eq name key.0.now) (bytes_eq folder key.1.now) refl refl where
  both : (bytes_eq name key.0.now && bytes_eq folder key.1.now) ≡ true
  both = sym (same_keys name key.0.now folder key.1.now) ∙ is

  by_tests : (a b : Bool) → bytes_eq name key.0.now ≡ a → bytes_eq folder key.1.now ≡ b
      → (name ≡ key.0.now) × (folder ≡ key.1.now)
  by_tests true true of_name of_folder =
      ((bytes_eq-Decides name key.0.now).0 of_name, (bytes_eq-Decides folder key.1.now).0 of_folder)
  by_tests true false of_name of_folder = let never : false ≡ true = rw (of_name, of_folder) at both in absurd (cc never)
  by_tests false b of_name of_folder = let never : false ≡ true = rw of_name at both in absurd (cc never)

-- which of two keys comes first makes no difference
pub either_way : (key : Key) (name folder : List ℕ)
    → is_eq (key_cmp key (key_of name folder)) ≡ is_key key name folder
either_way key name folder =
    rw (key_total.antisymm key (key_of name folder)) (by_order (key_cmp (key_of name folder) key)) where
      by_order : (o : Ordering) → is_eq (ordering_reverse o) ≡ is_eq o
      by_order Less = refl
      by_order Equal = refl
      by_order Greater = refl

-- ---- the folder above

-- what is up to the folder above is before the folder
pub before_above : (path parent last other : List ℕ) → path ≡ parent ++ (47 ∷ last) → IsUpTo other parent
    → slice_cmp nat_cmp other path ≡ Less
before_above path parent last other whole up =
    by_order (slice_cmp nat_cmp other parent) refl up where
      less : slice_cmp nat_cmp parent path ≡ Less
      less = rw whole (by_start parent) where
        by_start : (start : List ℕ) → slice_cmp nat_cmp start (start ++ (47 ∷ last)) ≡ Less
        by_start [] = refl
        by_start (b ∷ start) = rw (tied_itself nat_cmp_total b) (by_start start)

      by_order : (o : Ordering) → slice_cmp nat_cmp other parent ≡ o → is_gt o ≡ false → slice_cmp nat_cmp other path ≡ Less
      by_order Less is low = nat_list_cmp_total.trans other parent path is less
      by_order Equal is low = nat_list_cmp_total.congr other parent path is ∙ less
      by_order Greater is low = absurd (cc low)

-- what is up to the root is the root
pub before_root : (path other : List ℕ) → (path ≡ [] → ⊥) → IsUpTo other [] → slice_cmp nat_cmp other path ≡ Less
before_root [] other some up = absurd (some refl)
before_root (b ∷ path) [] some up = refl
before_root (b ∷ path) (x ∷ other) some up = absurd (cc up)

-- the nearest of the same folders
pub nearest_by : (places : Places) (name : List ℕ) (First Second : List ℕ → Type 0) (best : Option Hit)
    → ((folder : List ℕ) → First folder → Second folder) → ((folder : List ℕ) → Second folder → First folder)
    → IsNearestOf places name First best → IsNearestOf places name Second best
nearest_by places name First Second None to back is =
    record { hit = tt; nearest = λ folder some second. is.nearest folder some (back folder second) }
nearest_by places name First Second (Some h) to back is = record {
  hit = (is.hit.0, to h.folder.now is.hit.1);
  nearest = λ folder some second. is.nearest folder some (back folder second);
}

-- ---- what is left

-- the package of a name and a folder among entries
abbrev pub left_for : List (Key × Hit) → (name folder : List ℕ) → Option Hit
left_for entries name folder = lookup (is_at (key_cmp (key_of name folder))) entries

-- it has what is above it, or is left
abbrev pub IsDone : (places above : Places) → List (Key × Hit) → (name folder : List ℕ) → Type 0
IsDone places above entries name folder = IsNearestOf places name (IsOver folder) (at_place above name folder)
    ⊎ (IsSome (left_for entries name folder) × (at_place above name folder ≡ None))

absent_key : (key : Key) (entries : List (Key × Hit)) → AllByRecursion (λ y. key_cmp key y ≡ Less) (keys_of entries)
    → left_for entries key.0.now key.1.now ≡ None
absent_key key [] below = refl
absent_key key (e ∷ entries) below = rw below.0 (absent_key key entries below.1)

module _ (e : Key × Hit) (rest : List (Key × Hit)) (sorted : IsStrictlySortedBy key_cmp (keys_of (e ∷ rest))) where
  -- the hits that are left are those of their keys
  pub by_folder_left : ((name folder : List ℕ) → IfSome (left_for (e ∷ rest) name folder) (λ hit. hit.folder.now ≡ folder))
      → (name folder : List ℕ) → IfSome (left_for rest name folder) (λ hit. hit.folder.now ≡ folder)
  unfolding IsStrictlySortedBy
  by_folder_left all name folder = by_key (is_key e.0 name folder) refl where
    by_key : (b : Bool) → is_key e.0 name folder ≡ b
        → IfSome (left_for rest name folder) (λ hit. hit.folder.now ≡ folder)
    by_key true is =
        let same = key_is e.0 name folder is in
        let none : left_for rest name folder ≡ None = rw (same.0, same.1) (absent_key e.0 rest sorted.0) in
        rw none tt
    by_key false is = rw is at (all name folder)

  pub first_folder : ((name folder : List ℕ) → IfSome (left_for (e ∷ rest) name folder) (λ hit. hit.folder.now ≡ folder))
      → e.1.folder.now ≡ e.0.1.now
  first_folder all =
      let here : is_key e.0 e.0.0.now e.0.1.now ≡ true =
      same_keys e.0.0.now e.0.0.now e.0.1.now e.0.1.now
      ∙ (rw ((bytes_eq-Decides e.0.0.now e.0.0.now).1 refl, (bytes_eq-Decides e.0.1.now e.0.1.now).1 refl) refl) in
      rw here at (all e.0.0.now e.0.1.now)

  module _ (places above : Places)
      (all : (name folder : List ℕ) → IsSome (at_place places name folder) → IsDone places above (e ∷ rest) name folder)
    where
      -- the folders before this one have what is above them
      pub before : (folder : List ℕ) → slice_cmp nat_cmp folder e.0.1.now ≡ Less → HasAbove places above e.0.0.now folder
      before folder less some = elim (all e.0.0.now folder some) [
        | inl done ↦ done
        | inr left ↦
            let low : key_cmp (key_of e.0.0.now folder) e.0 ≡ Less =
            of_one_name e.0.0.now (slice_cmp nat_cmp folder e.0.1.now) ∙ less in
            let none : left_for (e ∷ rest) e.0.0.now folder ≡ None =
            lookup-none (is_at (key_cmp (key_of e.0.0.now folder))) (e ∷ rest)
            (none_below_head key_total (key_of e.0.0.now folder) e rest sorted low) in
            absurd (cc (rw none at left.0))
      ]

      -- nothing is above it
      pub none_above : IsNearestOf places e.0.0.now (IsOver e.0.1.now) None → (name folder : List ℕ)
          → IsSome (at_place places name folder) → IsDone places above rest name folder
      none_above none name folder some = elim (all name folder some) [
        | inl done ↦ inl done
        | inr left ↦ by_key (is_key e.0 name folder) refl left
      ] where
        by_key : (b : Bool) → is_key e.0 name folder ≡ b
            → IsSome (left_for (e ∷ rest) name folder) × (at_place above name folder ≡ None)
            → IsDone places above rest name folder
        by_key true is left =
            let same = key_is e.0 name folder is in
            let here : IsNearestOf places name (IsOver folder) None = rw (same.0, same.1) none in
            inl (rw left.1 here)
        by_key false is left = inr (rw is at left.0, left.1)

      -- this one is above it
      pub one_above : (new : Places) (next : Hit) → IsNearestOf places e.0.0.now (IsOver e.0.1.now) (Some next)
          → ((name folder : List ℕ) → at_place new name folder
          ≡ cond (is_eq (key_cmp e.0 (key_of name folder))) (Some next) (at_place above name folder))
          → (name folder : List ℕ) → IsSome (at_place places name folder) → IsDone places new rest name folder
      one_above new next is_next updated name folder some = by_key (is_key e.0 name folder) refl where
        now_at : at_place new name folder ≡ cond (is_key e.0 name folder) (Some next) (at_place above name folder)
        now_at = rw (← either_way e.0 name folder) (updated name folder)

        by_key : (b : Bool) → is_key e.0 name folder ≡ b → IsDone places new rest name folder
        by_key true is =
            let same = key_is e.0 name folder is in
            let there : at_place new name folder ≡ Some next = rw is at now_at in
            let here : IsNearestOf places name (IsOver folder) (Some next) = rw (same.0, same.1) is_next in
            inl (rw there here)
        by_key false is =
            let there : at_place new name folder ≡ at_place above name folder = rw is at now_at in
            elim (all name folder some) [
              | inl done ↦ inl (rw there done)
              | inr left ↦ inr (rw is at left.0, there ∙ left.1)
            ]
