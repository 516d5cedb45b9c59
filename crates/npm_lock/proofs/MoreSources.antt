-- Findings so far, those of what is next, and those of what is left.
use Rattle.std.proofs.Common.{◌≡◌, ◌++◌, ◌∙◌, ℕ, List, [], ◌∷◌, Bool, true, false, ap, append_assoc, bytes_eq, codes, filter}
use Rattle.std.proofs.Common.{◌+◌, ◌<◌, arith, drop, get_or, length, map, refl, suc, sym}
use Rattle.std.proofs.Math.Seq.{drop-cons}
use Rattle.std.specs.List.{flat_map, list_any}
use Rattle.std.proofs.lemmas.Grind.{flat_map-append}
use Rattle.std.proofs.lemmas.List.{map-append}
use Rattle.serde_json.specs.Data.{Data, Members, member}
use Rattle.npm_packages.specs.Folders.{place_in}
use Rattle.npm_packages.specs.Packages.{Package}
use Rattle.npm_lock.specs.VersionOne.{packages_below, packages_named, packages_of_entries, packages_of_members}
use Rattle.npm_lock.proofs.PackageLists.{all_named}

-- what was left is what is added now, and what is left then
pub added : {X : Type 0} (before here later all after : List X)
    → before ++ (here ++ later) ≡ all → after ≡ before ++ here → after ++ later ≡ all
added before here later all after whole is =
    ap (λ xs. xs ++ later) is ∙ append_assoc before here later ∙ whole

module _ {X : Type 0} (of : Package → List X) where
  -- the packages that the member `dependencies` names, and those of the members that are left
  pub named_added : (folder key : List ℕ) (value : Data) (others : Members) (before all after : List X)
      → bytes_eq key (codes "dependencies") ≡ true
      → before ++ flat_map of (packages_of_members folder (member key value others)) ≡ all
      → after ≡ before ++ flat_map of (packages_named folder value)
      → after ++ flat_map of (packages_of_members folder others) ≡ all
  named_added folder key value others before all after is whole more =
      added before (flat_map of (packages_named folder value)) (flat_map of (packages_of_members folder others)) all after
      (ap (λ xs. before ++ xs) (sym (ap (flat_map of) (all_named folder key value others is)
      ∙ flat_map-append of (packages_named folder value) (packages_of_members folder others))) ∙ whole) more

  -- a package, those inside it, and those that are left
  pub entry_found : (folder name : List ℕ) (entry : Data) (others : Members) (before all between after : List X)
      → before ++ flat_map of (packages_of_entries folder (member name entry others)) ≡ all
      → between ≡ before ++ of (record { folder = place_in folder name; member = entry })
      → after ≡ between ++ flat_map of (packages_below (place_in folder name) entry)
      → after ++ flat_map of (packages_of_entries folder others) ≡ all
  entry_found folder name entry others before all between after whole one inside =
      added between (flat_map of (packages_below (place_in folder name) entry)) (flat_map of (packages_of_entries folder others))
      all after
      (ap (λ xs. between ++ xs) (sym (flat_map-append of (packages_below (place_in folder name) entry)
      (packages_of_entries folder others)))
      ∙ added before (of (record { folder = place_in folder name; member = entry }))
      (flat_map of (packages_below (place_in folder name) entry ++ packages_of_entries folder others)) all between whole one) inside

module _ {X Y : Type 0} (of : X → Y) (is : X → Bool) where
  filter_first : (x : X) (others : List X) → filter is (x ∷ others) ≡ filter is (x ∷ []) ++ filter is others
  filter_first x others = at (is x) refl where
    at : (b : Bool) → b ≡ is x → filter is (x ∷ others) ≡ filter is (x ∷ []) ++ filter is others
    at true same = rw (← same) refl
    at false same = rw (← same) refl

  -- what is found of the first, and of those that are left
  pub first_added : (x : X) (left others : List X) (before all after : List Y) → left ≡ x ∷ others
      → before ++ map of (filter is left) ≡ all → after ≡ before ++ map of (filter is (x ∷ []))
      → after ++ map of (filter is others) ≡ all
  first_added x left others before all after split whole more =
      added before (map of (filter is (x ∷ []))) (map of (filter is others)) all after
      (ap (λ ys. before ++ ys) (sym (map-append of (filter is (x ∷ [])) (filter is others))
      ∙ ap (map of) (sym (filter_first x others)) ∙ ap (λ xs. map of (filter is xs)) (sym split)) ∙ whole) more

  -- what is found of the one at this place, and of those after it
  pub next_added : (all : List X) (i : ℕ) (d : X) (before whole after : List Y) → i < length all
      → before ++ map of (filter is (drop i all)) ≡ whole
      → after ≡ before ++ map of (filter is (get_or all i d ∷ []))
      → after ++ map of (filter is (drop (i + 1) all)) ≡ whole
  next_added all i d before whole after small held more =
      let next : suc i ≡ i + 1 = omega arith in
      first_added (get_or all i d) (drop i all) (drop (i + 1) all) before whole after
      (drop-cons all i d small ∙ ap (λ n. get_or all i d ∷ drop n all) next) held more

-- whether one of those at this place and after it is such
module _ {X Y : Type 0} (of : X → Y) (is : Y → Bool) (all : List X) (i : ℕ) (one : X) (small : i < length all)
    (same : one ≡ get_or all i one) (found : Bool) (held : found ≡ list_any is (map of (drop i all))) where
  one_left : found ≡ list_any is (map of (one ∷ drop (i + 1) all))
  one_left =
      let next : suc i ≡ i + 1 = omega arith in
      held ∙ ap (λ xs. list_any is (map of xs)) (drop-cons all i one small
      ∙ ap (λ n. get_or all i one ∷ drop n all) next ∙ ap (λ x. x ∷ drop (i + 1) all) (sym same))

  pub passed_by : is (of one) ≡ false → found ≡ list_any is (map of (drop (i + 1) all))
  passed_by misses = rw misses at one_left

  pub found_here : is (of one) ≡ true → true ≡ found
  found_here hits = sym (rw hits at one_left)
