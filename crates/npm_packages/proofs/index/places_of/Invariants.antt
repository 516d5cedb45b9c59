-- What the index has is right, and a package that it does not have is left.
use Rattle.std.proofs.Common.{◌≡◌, ◌⊎◌, ℕ, List, Some, string_cmp}
use Rattle.std.specs.List.Sorted.{IsStrictlySortedBy}
use Rattle.std.specs.Map.{keys_of}
use Rattle.std.specs.Option.{IfSome, IsSome}
use Rattle.serde_json.specs.Data.{Data}
use Rattle.serde_json.specs.Find.{get_member}
use Rattle.serde_json.specs.View.{members_view}
use Rattle.npm_packages.specs.Folders.{place_in}
use Rattle.npm_packages.specs.Packages.{IsFoundIn, Package}
use Rattle.npm_packages.specs.Index.{IsRight, at_place}
use Rattle.npm_packages.specs.LastParts.{IsPlain}
use Rattle.npm_packages.specs.PackageValue.{packages_data}
use Rattle.npm_packages.proofs.index.places_of.Given as goal

abbrev pub invariant-loop-folder : goal.invariant-loop-folder
invariant-loop-folder l = record {
  sorted : IsStrictlySortedBy string_cmp (keys_of l.folder-iterator);
  members : (key : List ℕ) (value : Data) → get_member key (members_view l.folder-iterator) ≡ Some value
      → get_member key (members_view l.initial.folder-iterator) ≡ Some value;
  sound : (name folder : List ℕ)
      → IfSome (at_place l.places name folder) (IsRight (packages_data l.lock) name folder);
  complete : (name folder : List ℕ) (found : Package) → IsPlain name
      → IsFoundIn (packages_data l.lock) name folder found
      → IsSome (at_place l.places name folder)
      ⊎ IsSome (get_member (place_in folder name) (members_view l.folder-iterator));
}
