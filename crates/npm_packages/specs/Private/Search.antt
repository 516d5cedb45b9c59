-- The common start of two paths, and the package that is found nearest to a folder.
use Rattle.std.specs.Prelude.{◌≡◌, ℕ, List, ◌++◌, Option}
use Rattle.std.specs.Option.{IfSome}
use Rattle.serde_json.specs.Data.{Data}
use Rattle.npm_packages.specs.Index.{IsCovered}
use Rattle.npm_packages.specs.Lookups.{IsReached}
use Rattle.npm_packages.specs.PackageValue.{package_value}
use Rattle.npm_packages.specs.Packages.{IsFoundIn, Package}
use Rattle.npm_packages.specs.declared.index.Hit.{Hit}

-- a text begins with these bytes
abbrev pub BeginsWith : (text start : List ℕ) → Type 0
BeginsWith text start = (rest : List ℕ) × (text ≡ start ++ rest)

-- the package of a hit is in the `node_modules` of its folder, in which the name is looked up
pub record IsHit (packages : Data) (from name : List ℕ) (hit : Hit) : Type 0 where
  pub reached : IsReached from hit.folder.now
  pub found : IsFoundIn packages name hit.folder.now (package_value hit.found)

-- the nearest hit, if there is one
pub record IsNearest (packages : Data) (from name : List ℕ) (best : Option Hit) : Type 0 where
  pub hit : IfSome best (IsHit packages from name)
  pub nearest : (folder : List ℕ) (found : Package) → IsReached from folder → IsFoundIn packages name folder found
      → IsCovered best folder
