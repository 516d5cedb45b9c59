-- What the index has after one more hit, and after one more member of `packages`.
use Rattle.std.proofs.Common.{◌≡◌, ◌∙◌, ◌⊎◌, ◌&&◌, ℕ, List, Bool, true, false, Option, Some, None, Ordering}
use Rattle.std.proofs.Common.{Less, Equal, Greater, ap, bytes_eq, inl, inr, is_eq, nat_cmp, refl, sym}
use Rattle.std.proofs.lemmas.Map.Text.{is_eq-slice_cmp}
use Rattle.std.proofs.lemmas.Slice.Eq.{bytes_eq-Decides}
use Rattle.std.specs.Cmp.{tied_then}
use Rattle.std.specs.Cmp.Lexicographic.{slice_cmp}
use Rattle.std.specs.Option.{IfSome, IsSome}
use Rattle.std.specs.Ordering.{ordering_then}
use Rattle.serde_json.specs.Data.{Data, Members, member}
use Rattle.serde_json.specs.Find.{get, get_member}
use Rattle.npm_packages.specs.Folders.{place_in}
use Rattle.npm_packages.specs.Packages.{IsFoundIn, Package, package_at}
use Rattle.npm_packages.specs.Index.{ArePlacesOf, IsRight, Places, at_place}
use Rattle.npm_packages.specs.LastParts.{IsEnd, IsPlain}
use Rattle.npm_packages.specs.Private.Index.{AreByFolder, IsAdded, IsMore}
use Rattle.npm_packages.specs.PackageValue.{package_value}
use Rattle.npm_packages.specs.declared.index.Hit.{Hit}
use Rattle.npm_packages.proofs.Fronts.{end_of_place, same_end, same_place}
use Rattle.npm_texts.specs.Lemmas.Keys.{exact, itself}

-- ---- keys

pub same_keys : (name other folder at : List ℕ)
    → is_eq (ordering_then (slice_cmp nat_cmp name other) (slice_cmp nat_cmp folder at))
    ≡ (bytes_eq name other && bytes_eq folder at)
same_keys name other folder at = sym (tied_then (slice_cmp nat_cmp name other) (slice_cmp nat_cmp folder at))
    ∙ (λ i. is_eq-slice_cmp name other i && is_eq-slice_cmp folder at i)

-- ---- what the places have

-- each hit is in the folder of its key
pub by_folder : (packages : Data) (places : Places) → ArePlacesOf packages places → AreByFolder places
by_folder packages places are name folder = by_hit (at_place places name folder) refl where
  by_hit : (o : Option Hit) → at_place places name folder ≡ o → IfSome o (λ hit. hit.folder.now ≡ folder)
  by_hit None there = tt
  by_hit (Some h) there =
      let right : IsRight packages name folder h = rw there at (are.sound name folder) in right.folder_is

-- ---- one more hit

-- the name of a place is its end
place_end : (place name other folder : List ℕ) → IsEnd place name → IsPlain other → place ≡ place_in folder other
    → name ≡ other
place_end place name other folder is_end plain_name is =
    same_end place name other is_end (rw is (end_of_place folder other other plain_name))

right_at : (packages : Data) (name : List ℕ) (hit : Hit) → IsFoundIn packages name hit.folder.now (package_value hit.found)
    → (other folder : List ℕ) → name ≡ other → hit.folder.now ≡ folder → IsRight packages other folder hit
right_at packages name hit found other folder of_name of_folder =
    record { folder_is = of_folder; found = rw (of_name, of_folder) at found }

module _ (packages : Data) (place name : List ℕ) (hit : Hit) (old new : Places) (added : IsAdded name hit old new) where
  by_sound : IsFoundIn packages name hit.folder.now (package_value hit.found) → (other folder : List ℕ)
      → IfSome (at_place old other folder) (IsRight packages other folder) → (a b : Bool) → bytes_eq name other ≡ a
      → bytes_eq hit.folder.now folder ≡ b → IfSome (at_place new other folder) (IsRight packages other folder)
  by_sound found other folder right true true same same_folder =
      let of_name : name ≡ other = (bytes_eq-Decides name other).0 same in
      let of_folder : hit.folder.now ≡ folder = (bytes_eq-Decides hit.folder.now folder).0 same_folder in
      rw (added other folder, same, same_folder) (right_at packages name hit found other folder of_name of_folder)
  by_sound found other folder right true false same same_folder = rw (added other folder, same, same_folder) right
  by_sound found other folder right false b same same_folder = rw (added other folder, same) right

  by_stays : (other folder : List ℕ) → IsSome (at_place old other folder) → (a b : Bool) → bytes_eq name other ≡ a
      → bytes_eq hit.folder.now folder ≡ b → IsSome (at_place new other folder)
  by_stays other folder some true true same same_folder = rw (added other folder, same, same_folder) refl
  by_stays other folder some true false same same_folder = rw (added other folder, same, same_folder) some
  by_stays other folder some false b same same_folder = rw (added other folder, same) some

  by_has : (other folder : List ℕ) → name ≡ other → hit.folder.now ≡ folder → IsSome (at_place new other folder)
  by_has other folder of_name of_folder =
      let same : bytes_eq name other ≡ true = (bytes_eq-Decides name other).1 of_name in
      let same_folder : bytes_eq hit.folder.now folder ≡ true = (bytes_eq-Decides hit.folder.now folder).1 of_folder in
      rw (added other folder, same, same_folder) refl

  pub is_more : IsEnd place name → place ≡ place_in hit.folder.now name
      → IsFoundIn packages name hit.folder.now (package_value hit.found) → IsMore packages place old new
  is_more is_end here found = record {
    sound = λ all other folder. by_sound found other folder (all other folder) _ _ refl refl;
    stays = λ other folder some. by_stays other folder some _ _ refl refl;
    has = λ other folder package_found plain_name is_found is.
        let of_name : name ≡ other = place_end place name other folder is_end plain_name is in
        let there : place ≡ place_in hit.folder.now other = rw of_name at here in
        let of_folder : hit.folder.now ≡ folder = same_place hit.folder.now folder other (sym there ∙ is) in
        by_has other folder of_name of_folder;
  }

module _ (packages : Data) (place : List ℕ) (places : Places) where
  -- nothing is at the place
  pub none_there : package_at packages place ≡ None → IsMore packages place places places
  none_there none = record {
    sound = λ all. all;
    stays = λ name folder some. some;
    has = λ name folder found plain_name is_found is.
        let there : package_at packages place ≡ Some found = rw is is_found.found in absurd (cc (none, there));
  }

  -- the place is in no folder that is looked in
  pub none_in : (name : List ℕ) → IsEnd place name
      → ((folder : List ℕ) (found : Package) → IsFoundIn packages name folder found → place ≡ place_in folder name → ⊥)
      → IsMore packages place places places
  none_in name is_end none = record {
    sound = λ all. all;
    stays = λ name folder some. some;
    has = λ other folder found plain_name is_found is.
        let same : name ≡ other = place_end place name other folder is_end plain_name is in
        absurd (none folder found (rw (← same) at is_found) (rw (← same) at is));
  }

-- ---- one more member of `packages`

-- the first member has its own value
pub first_member : (key : List ℕ) (value : Data) (rest : Members) → get_member key (member key value rest) ≡ Some value
first_member key value rest = by_order (slice_cmp nat_cmp key key) refl where
  by_order : (o : Ordering) → slice_cmp nat_cmp key key ≡ o → get_member key (member key value rest) ≡ Some value
  by_order Less is = absurd (cc (ap is_eq is, itself key))
  by_order Equal is = rw is refl
  by_order Greater is = absurd (cc (ap is_eq is, itself key))

-- a member that is left is another one
pub later_member : (name key : List ℕ) (value found : Data) (rest : Members) → get_member key rest ≡ None
    → get_member name rest ≡ Some found → get_member name (member key value rest) ≡ Some found
later_member name key value found rest none some = by_order (slice_cmp nat_cmp name key) refl where
  by_order : (o : Ordering) → slice_cmp nat_cmp name key ≡ o → get_member name (member key value rest) ≡ Some found
  by_order Less is = rw is some
  by_order Equal is =
      let same : name ≡ key = exact name key (ap is_eq is) in
      let gone : get_member name rest ≡ None = rw same none in
      absurd (cc (gone, some))
  by_order Greater is = rw is some

pub some_member : (packages : Data) (place : List ℕ) (found : Package) → package_at packages place ≡ Some found
    → IsSome (get place packages)
some_member packages place found is = by_member (get place packages) refl where
  by_member : (o : Option Data) → get place packages ≡ o → IsSome (get place packages)
  by_member None none =
      let never : package_at packages place ≡ None = rw none refl in absurd (cc (never, is))
  by_member (Some value) some = rw some refl

-- the package of a member is in the index, and the others are left
pub has_next : (packages : Data) (old new : Places) (name folder key : List ℕ) (value : Data) (rest : Members)
    (found : Package) → IsPlain name → IsFoundIn packages name folder found → IsMore packages key old new
    → IsSome (at_place old name folder) ⊎ IsSome (get_member (place_in folder name) (member key value rest))
    → IsSome (at_place new name folder) ⊎ IsSome (get_member (place_in folder name) rest)
has_next packages old new name folder key value rest found plain_name is more before = elim before [
  | inl there ↦ inl (more.stays name folder there)
  | inr left ↦ by_order (slice_cmp nat_cmp (place_in folder name) key) refl left
] where
  by_order : (o : Ordering) → slice_cmp nat_cmp (place_in folder name) key ≡ o
      → IsSome (get_member (place_in folder name) (member key value rest))
      → IsSome (at_place new name folder) ⊎ IsSome (get_member (place_in folder name) rest)
  by_order Less order left = inr (rw order at left)
  by_order Equal order left =
      let same : place_in folder name ≡ key = exact (place_in folder name) key (ap is_eq order) in
      inl (more.has name folder found plain_name is (sym same))
  by_order Greater order left = inr (rw order at left)
