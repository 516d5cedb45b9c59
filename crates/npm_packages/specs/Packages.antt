-- Where the name of a dependency is found: npm's "folders", "Cycles, Conflicts, and Folder Parsimony".
use Rattle.std.specs.Prelude.{◌≡◌, ◌≢◌, ◌⊎◌, ℕ, List, [], Bool, true, false, if◌then◌else◌, Option, Some, None, option_map}
use Rattle.std.specs.Prelude.{option_and_then, codes, drop, nat_eq}
use Rattle.std.specs.List.{starts_with}
use Rattle.serde_json.specs.Data.{Data}
use Rattle.serde_json.specs.Find.{as_str, get}
use Rattle.npm_texts.specs.Truth.{has_true}
use Rattle.npm_packages.specs.Folders.{IsAbove, IsOutermost, is_modules, place_in}
use Rattle.npm_packages.specs.LastParts.{IsEnd, IsPlain}

-- a package, and the folder that it is in
pub record Package : Type 0 where
  pub folder : List ℕ
  pub member : Data

-- the version of a package, as the lock file writes it
abbrev pub version_of : (member : Data) → Option (List ℕ)
version_of member = option_and_then as_str (get (codes "version") member)

-- the name that the lock file writes for a package, as it does for an alias and for most workspaces
abbrev pub said_name : (member : Data) → Option (List ℕ)
said_name member = option_and_then as_str (get (codes "name") member)

-- The package has this name: the lock file says so, or else its folder does: `a` of `packages/a`. An empty name counts as none.
pub data IsNamed (named : Package) (name : List ℕ) : Type 0 where
  said : said_name named.member ≡ Some name → name ≢ [] → IsNamed named name
  placed : (said_name named.member ≡ None) ⊎ (said_name named.member ≡ Some []) → IsEnd named.folder name
      → IsNamed named name

-- a member whose `link` counts as true in JavaScript, so that npm takes it for a link, which is no package of its own
abbrev pub is_link : (member : Data) → Bool
is_link member = has_true (codes "link") member

-- the folder that `resolved` of a link names: `w` and `./w` name the same
abbrev pub linked_folder : (resolved : List ℕ) → List ℕ
linked_folder resolved = if starts_with nat_eq resolved (codes "./") then drop 2 resolved else resolved

-- the package that `resolved` of a link names
abbrev pub target_of : (packages link : Data) → Option Package
target_of packages link = option_and_then
    (λ resolved. option_map (λ member. record { folder = linked_folder resolved; member = member })
    (get (linked_folder resolved) packages))
    (option_and_then as_str (get (codes "resolved") link))

-- the package at a place of the file, which is the target if a link is there
abbrev pub package_at : (packages : Data) → (place : List ℕ) → Option Package
package_at packages place = option_and_then
    (λ member. if is_link member then target_of packages member else Some (record { folder = place; member = member }))
    (get place packages)

-- The name is not found in the `node_modules` of this very folder. A package has the last part of its folder as its name,
-- with the scope before it, so a name of other parts is found nowhere: `node_modules/x/y` is a package `y`.
abbrev pub IsPassed : (packages : Data) → (name folder : List ℕ) → Type 0
IsPassed packages name folder =
    ¬ IsPlain name ⊎ (is_modules folder ≡ true) ⊎ (package_at packages (place_in folder name) ≡ None)

-- the name is found in the `node_modules` of this very folder
pub record IsFoundIn (packages : Data) (name folder : List ℕ) (package_found : Package) : Type 0 where
  pub plain : IsPlain name
  pub no_modules : is_modules folder ≡ false
  pub found : package_at packages (place_in folder name) ≡ Some package_found

-- the package that is found for a name from a folder: in its own `node_modules`, or else from the folder above
pub data IsFound (packages : Data) (name : List ℕ) : (folder : List ℕ) → Option Package → Type 0 where
  here : (folder : List ℕ) (found : Package) → IsFoundIn packages name folder found
      → IsFound packages name folder (Some found)
  above : (folder parent : List ℕ) (found : Option Package) → IsPassed packages name folder → IsAbove folder parent
      → IsFound packages name parent found → IsFound packages name folder found
  nowhere : (folder : List ℕ) → IsPassed packages name folder → IsOutermost folder → IsFound packages name folder None
