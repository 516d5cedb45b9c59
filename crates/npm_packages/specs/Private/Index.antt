-- What one call adds to the places of packages, and which folder is the last one up to some bytes, or the first one from there.
use Rattle.std.specs.Prelude.{◌≡◌, ℕ, List, Some, IsSome, ◌&&◌, false, bytes_eq, if◌then◌else◌}
use Rattle.std.specs.Cmp.Lexicographic.{slice_cmp}
use Rattle.std.specs.Option.{IfSome}
use Rattle.std.specs.Ordering.{is_gt, is_lt, nat_cmp}
use Rattle.serde_json.specs.Data.{Data}
use Rattle.npm_packages.specs.Folders.{place_in}
use Rattle.npm_packages.specs.Index.{IsRight, Places, at_place}
use Rattle.npm_packages.specs.LastParts.{IsPlain}
use Rattle.npm_packages.specs.Packages.{IsFoundIn, Package}
use Rattle.npm_packages.specs.declared.index.Hit.{Hit}

-- a hit is added for a name
abbrev pub IsAdded : (name : List ℕ) → Hit → (old new : Places) → Type 0
IsAdded name hit old new = (other folder : List ℕ) → at_place new other folder
    ≡ (if bytes_eq name other && bytes_eq hit.folder.now folder then Some hit else at_place old other folder)

-- the places are right as before, have what they had, and the package at one more place
pub record IsMore (packages : Data) (place : List ℕ) (old new : Places) : Type 0 where
  pub sound : ((name folder : List ℕ) → IfSome (at_place old name folder) (IsRight packages name folder))
      → (name folder : List ℕ) → IfSome (at_place new name folder) (IsRight packages name folder)
  pub stays : (name folder : List ℕ) → IsSome (at_place old name folder) → IsSome (at_place new name folder)
  pub has : (name folder : List ℕ) (found : Package) → IsPlain name → IsFoundIn packages name folder found
      → place ≡ place_in folder name → IsSome (at_place new name folder)

-- the folder of each hit is that of its key
abbrev pub AreByFolder : Places → Type 0
AreByFolder places = (name folder : List ℕ) → IfSome (at_place places name folder) (λ hit. hit.folder.now ≡ folder)

-- ---- the last folder up to some bytes, and the first one from there

-- not after these bytes, in their order
abbrev pub IsUpTo : (folder left : List ℕ) → Type 0
IsUpTo folder left = is_gt (slice_cmp nat_cmp folder left) ≡ false

-- what they have for the name in the last folder that is not after these bytes
pub record IsLastTo (places : Places) (name left : List ℕ) (hit : Hit) : Type 0 where
  pub folder : List ℕ
  pub there : at_place places name folder ≡ Some hit
  pub up_to : IsUpTo folder left
  pub last : (other : List ℕ) → IsSome (at_place places name other) → IsUpTo other left
      → is_lt (slice_cmp nat_cmp folder other) ≡ false

-- what they have for the name in the first folder that is not before these bytes
pub record IsFirstFrom (places : Places) (name start : List ℕ) (hit : Hit) : Type 0 where
  pub folder : List ℕ
  pub there : at_place places name folder ≡ Some hit
  pub from : IsUpTo start folder
  pub first : (other : List ℕ) → IsSome (at_place places name other) → IsUpTo start other → IsUpTo folder other
