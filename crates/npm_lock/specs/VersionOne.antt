-- Lock files of version 1, which npm 5 and 6 wrote, and of no version, which are older: npm's "package-lock.json",
-- "dependencies". Such a file is converted to `packages` of version 3, and then read as a file of that version.
use Rattle.std.specs.Prelude.{◌&&◌, ◌||◌, ◌++◌, ℕ, pos, List, [], ◌∷◌, Bool, true, false, not, if◌then◌else◌}
use Rattle.std.specs.Prelude.{Option, Some, None, bytes_eq, codes, is_some, option_and_then, option_map, unwrap_or}
use Rattle.std.specs.Float.Ieee.{Float, binary64, eq, of_int}
use Rattle.std.specs.Option.{option_map_or, option_or}
use Rattle.serde_json.specs.Data.{Data, Members, member, no_members, number, object, put, string, unsigned}
use Rattle.serde_json.specs.Find.{as_bool, as_null, as_number, as_object, as_str, get, to_float}
use Rattle.npm_packages.specs.Faults.{has_patterns, has_text_version, lock_fault, package_fault, specs_fault}
use Rattle.npm_packages.specs.Folders.{is_folder, place_in}
use Rattle.npm_packages.specs.Packages.{Package, is_link}
use Rattle.npm_lock.specs.Identity.{name_in, version_in}
use Rattle.npm_packages.specs.declared.fault.Fault.{Fault}
use Rattle.npm_packages.specs.declared.fault.Fault.TheVariants as Faults

-- ---- which lock files these are

-- a number may be written as `1.0`
abbrev pub is_one : Float → Bool
is_one x = eq x (of_int binary64 (pos 1))

abbrev pub says_one : (version : Data) → Bool
says_one version = option_map_or is_one (option_map to_float (as_number version)) false

-- `lockfileVersion` is 1, or it is absent and there are `dependencies`; a file with `packages` is of no such version
abbrev pub is_version_one : (lock : Data) → Bool
is_version_one lock = not (is_some (get (codes "packages") lock)) && option_map_or says_one
    (get (codes "lockfileVersion") lock) (is_some (get (codes "dependencies") lock))

-- ---- their packages

-- The packages of a file, each with its folder. A package in this folder has its own packages in `dependencies`: `b` of
-- `node_modules/a` is in `node_modules/a/node_modules/b`. After a package come those inside it.
abbrev mutual
  pub packages_below : (folder : List ℕ) → (entry : Data) → List Package
  packages_below folder (object members) = packages_of_members folder members
  packages_below folder _ = []

  -- those of the member `dependencies`, among these members of a package
  pub packages_of_members : (folder : List ℕ) → Members → List Package
  packages_of_members folder no_members = []
  packages_of_members folder (member key value others) =
      (if bytes_eq key (codes "dependencies") then packages_named folder value else [])
      ++ packages_of_members folder others

  -- those that `dependencies` of a package names
  pub packages_named : (folder : List ℕ) → (dependencies : Data) → List Package
  packages_named folder (object entries) = packages_of_entries folder entries
  packages_named folder _ = []

  pub packages_of_entries : (folder : List ℕ) → Members → List Package
  packages_of_entries folder no_members = []
  packages_of_entries folder (member name entry others) =
      (record { folder = place_in folder name; member = entry } ∷ packages_below (place_in folder name) entry)
      ++ packages_of_entries folder others

-- ---- the members of `packages` that they become

-- what a package depends on: its `requires`, unless that is `true` or `false`
abbrev pub required_of : (entry : Data) → Option Data
required_of entry = option_and_then
    (λ required. if is_some (as_bool required) then None else Some required) (get (codes "requires") entry)

-- the members, with a value for the key if there is one
abbrev pub with_some : (key : List ℕ) → Option Data → Members → Members
with_some key None members = members
with_some key (Some value) members = put key value members

-- A package as a member of `packages`: `{"version": "1.0.0", "dependencies": {"b": "^1"}}` of
-- `{"version": "1.0.0", "requires": {"b": "^1"}}`, with `dev` and `optional` as they are. An alias and a tarball also have the
-- `name` of the package.
abbrev pub member_of : (folder : List ℕ) → (entry : Data) → Data
member_of folder entry = object (with_some (codes "version") (option_map string (version_in folder entry))
    (with_some (codes "optional") (get (codes "optional") entry)
    (with_some (codes "name") (option_map string (name_in folder entry))
    (with_some (codes "dev") (get (codes "dev") entry)
    (with_some (codes "dependencies") (required_of entry) no_members)))))

-- the members, with one for each package; of two packages in one folder the later counts
abbrev pub with_packages : List Package → Members → Members
with_packages [] members = members
with_packages (first ∷ others) members =
    with_packages others (put first.folder (member_of first.folder first.member) members)

-- The `packages` that a file of version 1 becomes. The file does not say what the root depends on: that is in the
-- manifest, `package.json`. With no manifest the root has no dependencies.
abbrev pub packages_of : (lock : Data) → (manifest : Option Data) → Data
packages_of lock manifest = object (with_packages (packages_below [] lock)
    (member [] (unwrap_or manifest (object no_members)) no_members))

-- a lock file with these `packages`, of version 3
abbrev pub file_of : (packages : Data) → Data
file_of packages = object (member (codes "lockfileVersion") (number (unsigned 3))
    (member (codes "packages") packages no_members))

-- a lock file of any version, as one with `packages`
abbrev pub converted : (lock : Data) → (manifest : Option Data) → Data
converted lock manifest = if is_version_one lock then file_of (packages_of lock manifest) else lock

-- ---- their faults

-- `dependencies` of a package is an object, `null` or absent
abbrev pub has_named : (entry : Data) → Bool
has_named entry = option_map_or (λ named. is_some (as_null named) || is_some (as_object named))
    (get (codes "dependencies") entry) true

-- the fault of what a package requires, which may also be `null`, `true` or `false`
abbrev pub requires_fault : (entry : Data) → Option Fault
requires_fault entry = option_and_then
    (λ required. if is_some (as_null required) then None else specs_fault (as_object required)) (required_of entry)

-- the fault of a package, if it has one
abbrev pub entry_fault : (entry : Data) → Option Fault
entry_fault entry = if not (is_some (as_object entry)) then Some Faults.Entry
    else (if not (has_text_version entry) then Some Faults.PackageVersion
    else (if not (has_named entry) then Some Faults.Dependencies else requires_fault entry))

-- the fault of a package in its folder
abbrev pub placed_fault : Package → Option Fault
placed_fault placed = if is_folder placed.folder then entry_fault placed.member else Some Faults.Folder

-- the first fault of these packages
abbrev pub packages_fault : List Package → Option Fault
packages_fault [] = None
packages_fault (first ∷ others) = option_or (placed_fault first) (packages_fault others)

-- the fault of a manifest, which takes the root's place
abbrev pub manifest_fault : (manifest : Data) → Option Fault
manifest_fault manifest = if not (is_some (as_object manifest)) || is_link manifest then Some Faults.Manifest
    else (if has_patterns manifest then package_fault manifest else Some Faults.Workspaces)

-- the fault of a file of version 1, or else of its manifest
abbrev pub version_one_fault : (lock : Data) → (manifest : Option Data) → Option Fault
version_one_fault lock manifest = option_or
    (if has_named lock then packages_fault (packages_below [] lock) else Some Faults.Dependencies)
    (option_and_then manifest_fault manifest)

-- the fault of a lock file of any version, if it has one: this is what `check_any` refuses
abbrev pub any_fault : (lock : Data) → (manifest : Option Data) → Option Fault
any_fault lock manifest = if is_version_one lock then version_one_fault lock manifest else lock_fault lock
