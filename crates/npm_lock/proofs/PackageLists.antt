-- Lists of packages of a file of version 1, one after the other.
use Rattle.std.proofs.Common.{◌≡◌, ◌++◌, ◌∙◌, ℕ, List, [], ◌∷◌, true, false, Option, Some, None, ap, bytes_eq, codes}
use Rattle.std.proofs.Common.{refl}
use Rattle.std.proofs.Common.{BTreeMap, Global, String, sym}
use Rattle.std.specs.Option.{option_or}
use Rattle.serde_json.proofs.Views.{view-Object}
use Rattle.serde_json.specs.Data.{Data, Members, member, object, put}
use Rattle.serde_json.specs.View.{members_view, view}
use Rattle.serde_json.specs.declared.value.Value.{Value, Object}
use Rattle.npm_packages.specs.Folders.{is_folder, place_in}
use Rattle.npm_packages.specs.Packages.{Package}
use Rattle.npm_lock.specs.VersionOne.{entry_fault, member_of, packages_below, packages_fault, placed_fault}
use Rattle.npm_lock.specs.VersionOne.{packages_named}
use Rattle.npm_lock.specs.VersionOne.{packages_of_entries, packages_of_members, with_packages}
use Rattle.npm_packages.specs.declared.fault.Fault.{Fault}
use Rattle.npm_packages.specs.declared.fault.Fault.TheVariants as Faults

-- the members with the packages of two lists
pub with_both : (first others : List Package) (base : Members)
    → with_packages (first ++ others) base ≡ with_packages others (with_packages first base)
with_both [] others base = refl
with_both (p ∷ first) others base = with_both first others _

or_later : {A : Type 0} (a b c : Option A) → option_or a (option_or b c) ≡ option_or (option_or a b) c
or_later None b c = refl
or_later (Some x) b c = refl

-- the fault of two lists
pub fault_of_both : (first others : List Package)
    → packages_fault (first ++ others) ≡ option_or (packages_fault first) (packages_fault others)
fault_of_both [] others = refl
fault_of_both (p ∷ first) others = ap (option_or (placed_fault p)) (fault_of_both first others)
    ∙ or_later (placed_fault p) (packages_fault first) (packages_fault others)

-- ---- the member `dependencies`, among others

module _ (folder key : List ℕ) (value : Data) (others : Members) where
  -- another member names no packages
  pub none_named : bytes_eq key (codes "dependencies") ≡ false
      → packages_of_members folder (member key value others) ≡ packages_of_members folder others
  none_named is = rw is refl

  -- the packages that it names, and then those of the members that are left
  pub all_named : bytes_eq key (codes "dependencies") ≡ true
      → packages_of_members folder (member key value others)
      ≡ packages_named folder value ++ packages_of_members folder others
  all_named is = rw is refl

  pub fault_passed : bytes_eq key (codes "dependencies") ≡ true → None ≡ packages_fault (packages_named folder value)
      → packages_fault (packages_of_members folder (member key value others))
      ≡ packages_fault (packages_of_members folder others)
  fault_passed is none = ap packages_fault (all_named is)
      ∙ fault_of_both (packages_named folder value) (packages_of_members folder others)
      ∙ ap (λ f. option_or f (packages_fault (packages_of_members folder others))) (sym none)

  pub fault_found : (fault : Fault) → bytes_eq key (codes "dependencies") ≡ true
      → Some fault ≡ packages_fault (packages_named folder value)
      → packages_fault (packages_of_members folder (member key value others)) ≡ Some fault
  fault_found fault is some = ap packages_fault (all_named is)
      ∙ fault_of_both (packages_named folder value) (packages_of_members folder others)
      ∙ ap (λ f. option_or f (packages_fault (packages_of_members folder others))) (sym some)

  pub packages_added : (base : Members) → bytes_eq key (codes "dependencies") ≡ true
      → with_packages (packages_of_members folder (member key value others)) base
      ≡ with_packages (packages_of_members folder others) (with_packages (packages_named folder value) base)
  packages_added base is = ap (λ all. with_packages all base) (all_named is)
      ∙ with_both (packages_named folder value) (packages_of_members folder others) base

-- ---- one package that is named, and those inside it

module _ (folder name : List ℕ) (entry : Data) (others : Members) where
  -- the fault of the package, and then those inside it
  abbrev with_fault : Option Fault → Option Fault
  with_fault f = option_or f (packages_fault (packages_below (place_in folder name) entry ++ packages_of_entries folder others))

  pub folder_found : is_folder (place_in folder name) ≡ false
      → packages_fault (packages_of_entries folder (member name entry others)) ≡ Some Faults.Folder
  folder_found is = rw is refl

  module _ (is : is_folder (place_in folder name) ≡ true) where
    placed : packages_fault (packages_of_entries folder (member name entry others)) ≡ with_fault (entry_fault entry)
    placed = rw is refl

    pub entry_passed : None ≡ entry_fault entry → None ≡ packages_fault (packages_below (place_in folder name) entry)
        → packages_fault (packages_of_entries folder (member name entry others))
        ≡ packages_fault (packages_of_entries folder others)
    entry_passed none inside = placed ∙ ap with_fault (sym none)
        ∙ fault_of_both (packages_below (place_in folder name) entry) (packages_of_entries folder others)
        ∙ ap (λ f. option_or f (packages_fault (packages_of_entries folder others))) (sym inside)

    pub entry_found : (fault : Fault) → Some fault ≡ entry_fault entry
        → packages_fault (packages_of_entries folder (member name entry others)) ≡ Some fault
    entry_found fault some = placed ∙ ap with_fault (sym some)

    pub inside_found : (fault : Fault) → None ≡ entry_fault entry
        → Some fault ≡ packages_fault (packages_below (place_in folder name) entry)
        → packages_fault (packages_of_entries folder (member name entry others)) ≡ Some fault
    inside_found fault none some = placed ∙ ap with_fault (sym none)
        ∙ fault_of_both (packages_below (place_in folder name) entry) (packages_of_entries folder others)
        ∙ ap (λ f. option_or f (packages_fault (packages_of_entries folder others))) (sym some)

  pub entry_added : (place : List ℕ) (made : Data) (base with_it after : Members)
      → place ≡ place_in folder name → made ≡ member_of place entry → with_it ≡ put place made base
      → after ≡ with_packages (packages_below place entry) with_it
      → with_packages (packages_of_entries folder others) after
      ≡ with_packages (packages_of_entries folder (member name entry others)) base
  entry_added place made base with_it after is is_made is_with is_after =
      rw (is_after, is_with, is_made, is)
      (sym (with_both (packages_below (place_in folder name) entry) (packages_of_entries folder others)
      (put (place_in folder name) (member_of (place_in folder name) entry) base)))
