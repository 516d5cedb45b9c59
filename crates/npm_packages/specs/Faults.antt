-- Which values are no lock file that is read: npm's "package-lock.json", "lockfileVersion" and "packages".
use Rattle.std.specs.Prelude.{◌||◌, ◌&&◌, ◌==◌, ℕ, pos, List, Bool, true, false, not, if◌then◌else◌, Option, Some, None}
use Rattle.std.specs.Prelude.{is_some, length, option_and_then, option_map, codes}
use Rattle.std.specs.Float.Ieee.{Float, binary64, eq, of_int}
use Rattle.std.specs.Option.{option_map_or, option_or}
use Rattle.serde_json.specs.Data.{Data, Members, member, no_members}
use Rattle.serde_json.specs.Find.{as_array, as_null, as_number, as_object, as_str, get, to_float}
use Rattle.npm_packages.specs.Folders.{is_folder}
use Rattle.npm_packages.specs.Packages.{is_link, target_of}
use Rattle.npm_packages.specs.declared.fault.Fault.{Fault}
use Rattle.npm_packages.specs.declared.fault.Fault.TheVariants as Faults

-- versions 2 and 3 of the format have `packages`; a number may be written as `3.0`
abbrev pub is_format : Float → Bool
is_format x = eq x (of_int binary64 (pos 2)) || eq x (of_int binary64 (pos 3))

-- `lockfileVersion` is one of them
abbrev pub has_format : (lock : Data) → Bool
has_format lock = option_map_or is_format
    (option_map to_float (option_and_then as_number (get (codes "lockfileVersion") lock))) false

-- each member is a string
abbrev pub are_texts : Members → Bool
are_texts no_members = true
are_texts (member name spec others) = is_some (as_str spec) && are_texts others

-- the fault of a group of dependencies, of which these are the members if it is an object
abbrev pub specs_fault : Option Members → Option Fault
specs_fault None = Some Faults.Dependencies
specs_fault (Some specs) = if are_texts specs then None else Some Faults.Spec

-- the fault of a group of dependencies, which may be absent or `null`
abbrev pub group_fault : (entry : Data) → (group : List ℕ) → Option Fault
group_fault entry group = option_and_then
    (λ specs. if is_some (as_null specs) then None else specs_fault (as_object specs)) (get group entry)

-- the first fault of the four groups
abbrev pub groups_fault : (entry : Data) → Option Fault
groups_fault entry = option_or (option_or (option_or (group_fault entry (codes "peerDependencies"))
    (group_fault entry (codes "dependencies")))
    (group_fault entry (codes "optionalDependencies")))
    (group_fault entry (codes "devDependencies"))

-- `version` is a string, or absent
abbrev pub has_text_version : (entry : Data) → Bool
has_text_version entry = option_map_or (λ version. is_some (as_str version)) (get (codes "version") entry) true

-- the fault of a package that is no link
abbrev pub package_fault : (entry : Data) → Option Fault
package_fault entry = if has_text_version entry then groups_fault entry else Some Faults.PackageVersion

-- a link names a package that is no link
abbrev pub link_fault : (packages link : Data) → Option Fault
link_fault packages link = option_map_or
    (λ target. if is_link target.member then Some Faults.Link else None) (target_of packages link) (Some Faults.Link)

-- the fault of a member of `packages`, apart from its folder
abbrev pub entry_fault : (packages entry : Data) → Option Fault
entry_fault packages entry = if is_some (as_object entry)
    then (if is_link entry then link_fault packages entry else package_fault entry)
    else Some Faults.Package

-- a list of patterns, or an object with such a list as `packages`
abbrev pub has_list : (said : Data) → Bool
has_list said = is_some (as_array said) || is_some (option_and_then as_array (get (codes "packages") said))

-- `workspaces` of the root is one of them, or absent: npm refuses anything else
abbrev pub has_patterns : (root : Data) → Bool
has_patterns root = option_map_or has_list (get (codes "workspaces") root) true

-- the fault of a member of `packages`, if it has one; its key is the folder of a package, and that of the root is empty
abbrev pub member_fault : (packages : Data) → (folder : List ℕ) → (entry : Data) → Option Fault
member_fault packages folder entry = if not (is_folder folder) then Some Faults.Folder
    else (if (length folder == 0) && not (has_patterns entry) then Some Faults.Workspaces else entry_fault packages entry)

-- the first fault of these members of `packages`
abbrev pub members_fault : (packages : Data) → Members → Option Fault
members_fault packages no_members = None
members_fault packages (member folder entry others) =
    option_or (member_fault packages folder entry) (members_fault packages others)

-- the fault of `packages`
abbrev pub packages_fault : (packages : Data) → Option Fault
packages_fault packages = option_map_or (members_fault packages) (as_object packages) (Some Faults.Packages)

-- the fault of a value as a lock file, if it has one: this is what `check` refuses
abbrev pub lock_fault : (lock : Data) → Option Fault
lock_fault lock = if has_format lock
    then option_map_or packages_fault (get (codes "packages") lock) (Some Faults.Packages)
    else Some Faults.Version
