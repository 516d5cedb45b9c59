-- What the index of a lock file has: which package a name has in the `node_modules` of a folder.
use Rattle.std.specs.Prelude.{◌≡◌, ◌<◌, ◌≤◌, ◌⊎◌, ℕ, List, [], ◌∷◌, ◌++◌, Option, IsSome, Some, length}
use Rattle.std.specs.BTreeMap.{BTreeMap, get_by}
use Rattle.std.specs.Cmp.Lexicographic.{slice_cmp}
use Rattle.std.specs.Option.{IfSome}
use Rattle.std.specs.Ordering.{nat_cmp, ordering_then}
use Rattle.std.specs.Path.{slash}
use Rattle.serde_json.specs.Data.{Data}
use denote.Ref.{Bor}
use Rattle.npm_packages.specs.LastParts.{IsPlain}
use Rattle.npm_packages.specs.PackageValue.{package_value}
use Rattle.npm_packages.specs.Packages.{IsFoundIn, Package}
use Rattle.npm_packages.specs.declared.index.Hit.{Hit}
use Rattle.npm_packages.specs.declared.index.Index.{Index}

-- ---- packages by their names and folders

abbrev pub Places : Type 0
Places = BTreeMap (Bor (List ℕ) × Bor (List ℕ)) Hit

-- what they have for a name in the `node_modules` of a folder
abbrev pub at_place : Places → (name folder : List ℕ) → Option Hit
at_place places name folder = get_by
    (λ k. ordering_then (slice_cmp nat_cmp name k.0.now) (slice_cmp nat_cmp folder k.1.now)) places

-- a hit is the package of the name in the `node_modules` of the folder
pub record IsRight (packages : Data) (name folder : List ℕ) (hit : Hit) : Type 0 where
  pub folder_is : hit.folder.now ≡ folder
  pub found : IsFoundIn packages name folder (package_value hit.found)

-- what they have is right, and no package of a plain name is left out
pub record ArePlacesOf (packages : Data) (places : Places) : Type 0 where
  pub sound : (name folder : List ℕ) → IfSome (at_place places name folder) (IsRight packages name folder)
  pub complete : (name folder : List ℕ) (found : Package) → IsPlain name → IsFoundIn packages name folder found
      → IsSome (at_place places name folder)

-- ---- the folders above

-- a path, or its beginning before a `/`, or the empty path: `a/b`, `a` and the root for `a/b`
abbrev pub IsFront : (path front : List ℕ) → Type 0
IsFront path front = (front ≡ []) ⊎ (path ≡ front) ⊎ ((rest : List ℕ) × (path ≡ front ++ (slash ∷ rest)))

-- the beginning of a path before a `/`, or the empty path, but not the path itself
abbrev pub IsOver : (path front : List ℕ) → Type 0
IsOver path front = IsFront path front × (length front < length path)

-- the hit is at least as near as this folder
abbrev pub IsCovered : Option Hit → (folder : List ℕ) → Type 0
IsCovered best folder = (hit : Hit) × (best ≡ Some hit) × (length folder ≤ length hit.folder.now)

-- the package of the name in the nearest of these folders, if one of them has one
pub record IsNearestOf (places : Places) (name : List ℕ) (Folders : List ℕ → Type 0) (best : Option Hit) : Type 0 where
  pub hit : IfSome best (λ h. (at_place places name h.folder.now ≡ Some h) × Folders h.folder.now)
  pub nearest : (folder : List ℕ) → IsSome (at_place places name folder) → Folders folder → IsCovered best folder

-- if there is a package, `above` has the one of its name in the nearest folder above it, or nothing if there is none
abbrev pub HasAbove : (places above : Places) → (name folder : List ℕ) → Type 0
HasAbove places above name folder = IsSome (at_place places name folder)
    → IsNearestOf places name (IsOver folder) (at_place above name folder)

-- ---- the index

-- what it has is right, no package of a plain name is left out, and each has the next one of its name above it
pub record IsIndexOf (packages : Data) (index : Index) : Type 0 where
  pub places : ArePlacesOf packages index.by_name
  pub above : (name folder : List ℕ) → HasAbove index.by_name index.above name folder
