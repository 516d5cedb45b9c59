-- The folders of packages that links name: workspaces of the root, and packages of `file:` specs. npm reads the manifests
-- of these beside the lock file: npm's "workspaces", and "package.json", "Local Paths".
use Rattle.std.specs.Prelude.{◌≡◌, ◌≢◌, ◌↔◌, ℕ, List, [], true, false, Some, codes}
use Rattle.std.specs.Cmp.Lexicographic.{slice_cmp}
use Rattle.std.specs.List.{Contains}
use Rattle.std.specs.List.Sorted.{IsStrictlySortedBy}
use Rattle.std.specs.Ordering.{nat_cmp}
use Rattle.serde_json.specs.Data.{Data}
use Rattle.serde_json.specs.Find.{get}
use Rattle.npm_packages.specs.Folders.{IsInstalled}
use Rattle.npm_packages.specs.Packages.{is_link, target_of}

-- a link to the package in this folder, which is no link itself; the folder is not the root, and in no `node_modules`
pub record IsLinkTo (packages link : Data) (folder : List ℕ) : Type 0 where
  pub is_such : is_link link ≡ true
  pub target : Data
  pub named : target_of packages link ≡ Some (record { folder = folder; member = target })
  pub no_link : is_link target ≡ false
  pub below : folder ≢ []
  pub outside : ¬ IsInstalled folder

-- a member of `packages` is a link to this folder
pub record IsLinked (packages : Data) (folder : List ℕ) : Type 0 where
  pub place : List ℕ
  pub link : Data
  pub there : get place packages ≡ Some link
  pub leads : IsLinkTo packages link folder

-- a member of `packages` of the lock file is a link to this folder
pub record IsLinkedIn (lock : Data) (folder : List ℕ) : Type 0 where
  pub packages : Data
  pub there : get (codes "packages") lock ≡ Some packages
  pub linked : IsLinked packages folder

-- the folders to which links lead, each once, in the order of their bytes
pub record AreLinkedFolders (lock : Data) (folders : List (List ℕ)) : Type 0 where
  pub ascending : IsStrictlySortedBy (slice_cmp nat_cmp) folders
  pub all : (folder : List ℕ) → Contains folders folder ↔ IsLinkedIn lock folder
