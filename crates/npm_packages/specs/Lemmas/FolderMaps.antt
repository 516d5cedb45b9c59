-- Maps of folders: one more folder, and what is left to be added.
use Rattle.std.proofs.Common.{◌≡◌, ◌⊎◌, ◌↔◌, ℕ, List, Bool, true, false, cond, Option, Some, BTreeMap, ap, bytes_eq, inl, inr}
use Rattle.std.proofs.Common.{nat_cmp, option_map, refl}
use denote.Ref.{Bor}
use Rattle.std.proofs.lemmas.Map.Text.{btree_map_updates_str}
use Rattle.std.proofs.lemmas.Slice.Eq.{bytes_eq-Decides}
use Rattle.std.specs.BTreeMap.{UpdatesBy, get_by, is_at}
use Rattle.std.specs.Cmp.Lexicographic.{slice_cmp}
use Rattle.std.specs.Map.{lookup}
use Rattle.std.specs.Option.{IsSome}

-- the map has this folder
abbrev pub HasFolder : {X : Type 0} → BTreeMap (Bor (List ℕ)) X → (folder : List ℕ) → Type 0
HasFolder folders folder = IsSome (get_by (λ k. slice_cmp nat_cmp folder k.now) folders)

-- ---- one more folder

module _ {X : Type 0} (old new : BTreeMap (Bor (List ℕ)) X) (value : X) (text folder : List ℕ) where
  by_text : (b : Bool) → bytes_eq text folder ≡ b
      → IsSome (cond b (Some value) (lookup (is_at (λ k. slice_cmp nat_cmp folder k.now)) old.entries))
      ↔ ((text ≡ folder) ⊎ HasFolder old folder)
  by_text true is = ((λ some. inl ((bytes_eq-Decides text folder).0 is)), (λ either. refl))
  by_text false is = (
    (λ some. inr some),
    (λ either. elim either [
      | inl same ↦ cc (is, (bytes_eq-Decides text folder).1 same)
      | inr has ↦ has
    ]),
  )

  pub one_folder : UpdatesBy (λ x y. slice_cmp nat_cmp x.now y.now) (λ k. slice_cmp nat_cmp text k.now) old new
      (Some value)
      → HasFolder new folder ↔ ((text ≡ folder) ⊎ HasFolder old folder)
  one_folder updates =
      rw (btree_map_updates_str text old new (Some value) updates folder) (by_text (bytes_eq text folder) refl)

pub names_that : (found : Option (Bor (List ℕ))) (text : Bor (List ℕ)) (folder : List ℕ) (Leads : Type 0)
    → found ≡ Some text → (option_map (λ f. f.now) found ≡ Some folder) ↔ Leads → (text.now ≡ folder) ↔ Leads
names_that found text folder Leads is same = (
  (λ named. same.0 (rw is (ap Some named))),
  (λ leads. let named : Some text.now ≡ Some folder = rw is at same.1 leads in cc named),
)

-- a folder that is found, in place of its text
pub more_that : {Named Leads More Has : Type 0} → Named ↔ Leads → More ↔ (Named ⊎ Has) → More ↔ (Leads ⊎ Has)
more_that same more = (
  (λ m. elim (more.0 m) [
    | inl named ↦ inl (same.0 named)
    | inr has ↦ inr has
  ]),
  (λ either. elim either [
    | inl leads ↦ more.1 (inl (same.1 leads))
    | inr has ↦ more.1 (inr has)
  ]),
)

-- what is left begins with a folder that was added
pub passed : {All Has Left Leads More Rest : Type 0} → All ↔ (Has ⊎ Left) → Left ↔ (Leads ⊎ Rest)
    → More ↔ (Leads ⊎ Has) → All ↔ (More ⊎ Rest)
passed all left more = (
  (λ a. elim (all.0 a) [
    | inl has ↦ inl (more.1 (inr has))
    | inr among ↦ elim (left.0 among) [
      | inl leads ↦ inl (more.1 (inl leads))
      | inr rest ↦ inr rest
    ]
  ]),
  (λ either. elim either [
    | inl has ↦ elim (more.0 has) [
      | inl leads ↦ all.1 (inr (left.1 (inl leads)))
      | inr old ↦ all.1 (inl old)
    ]
    | inr rest ↦ all.1 (inr (left.1 (inr rest)))
  ]),
)
