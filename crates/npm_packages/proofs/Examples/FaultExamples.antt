-- What the definitions say of values that are no lock file.
use Rattle.std.proofs.Common.{◌≡◌, List, ℕ, None, Some, codes, false, refl, true}
use Rattle.std.specs.Float.Ieee.{eq, of_int}
use Rattle.serde_json.specs.Data.{Data, Num, array, boolean, member, no_items, no_members, null, number, object, string, unsigned}
use Rattle.npm_packages.specs.Faults.{group_fault, groups_fault, has_format, has_patterns, lock_fault, package_fault}
use Rattle.npm_packages.specs.Folders.{is_folder}
use Rattle.npm_packages.specs.declared.fault.Fault.TheVariants as Faults

-- ---- faults

abbrev of_version : Num → Data
of_version n = object (member (codes "lockfileVersion") (number n) no_members)

pub three_is_a_format : has_format (of_version (unsigned 3)) ≡ true
unfolding eq of_int
three_is_a_format = refl

pub four_is_none : has_format (of_version (unsigned 4)) ≡ false
unfolding eq of_int
four_is_none = refl

pub null_is_no_group : group_fault (object (member (codes "dependencies") null no_members)) (codes "dependencies") ≡
    None
null_is_no_group = refl

pub false_is_a_fault : group_fault (object (member (codes "dependencies") (boolean false) no_members))
    (codes "dependencies") ≡ Some Faults.Dependencies
false_is_a_fault = refl

-- ---- folders

pub a_package_is_in_a_folder : is_folder (codes "node_modules/@s/a/node_modules/b") ≡ true
a_package_is_in_a_folder = refl

pub the_root_is_a_folder : is_folder (codes "") ≡ true
the_root_is_a_folder = refl

pub a_folder_may_lead_up_first : is_folder (codes "../../x/..a") ≡ true
a_folder_may_lead_up_first = refl

pub a_folder_does_not_turn : is_folder (codes "a/../b") ≡ false
a_folder_does_not_turn = refl

pub a_folder_has_no_slash_at_its_end : is_folder (codes "node_modules/a/") ≡ false
a_folder_has_no_slash_at_its_end = refl

pub a_folder_has_no_dot : is_folder (codes "./a") ≡ false
a_folder_has_no_dot = refl

pub a_folder_has_no_backslash : is_folder (codes "node_modules\\a") ≡ false
a_folder_has_no_backslash = refl

pub a_folder_of_packages_is_none : is_folder (codes "w/node_modules") ≡ false
a_folder_of_packages_is_none = refl

pub the_first_folder_of_packages_is_none : is_folder (codes "node_modules") ≡ false
the_first_folder_of_packages_is_none = refl

pub a_package_may_be_named_alike : is_folder (codes "node_modules/node_modules-a") ≡ true
a_package_may_be_named_alike = refl

-- a lock file with a package in this folder
abbrev with_folder : (folder : List ℕ) → Data
with_folder folder = object (member (codes "lockfileVersion") (number (unsigned 3))
    (member (codes "packages") (object (member folder (object no_members) no_members)) no_members))

pub a_wrong_folder_is_a_fault : lock_fault (with_folder (codes "node_modules/lodash/")) ≡ Some Faults.Folder
unfolding eq of_int
a_wrong_folder_is_a_fault = refl

-- ---- workspaces

abbrev with_workspaces : (said : Data) → Data
with_workspaces said = object (member (codes "workspaces") said no_members)

pub a_list_has_patterns : has_patterns (with_workspaces (array no_items)) ≡ true
a_list_has_patterns = refl

pub an_object_may_have_them : has_patterns (with_workspaces (object (member (codes "packages") (array no_items) no_members)))
    ≡ true
an_object_may_have_them = refl

pub a_text_has_none : has_patterns (with_workspaces (string (codes "packages/*"))) ≡ false
a_text_has_none = refl

pub null_has_none : has_patterns (with_workspaces null) ≡ false
null_has_none = refl

-- ---- the first fault counts

-- groups that are no objects, or have a spec that is no string
abbrev both : (list specs : List ℕ) → Data
both list specs = object (member list (array no_items)
    (member specs (object (member (codes "a") (number (unsigned 1)) no_members)) no_members))

pub peers_come_first : groups_fault (both (codes "dependencies") (codes "peerDependencies")) ≡ Some Faults.Spec
peers_come_first = refl

pub dependencies_come_second : groups_fault (both (codes "optionalDependencies") (codes "dependencies")) ≡ Some Faults.Spec
dependencies_come_second = refl

pub optional_ones_come_third : groups_fault (both (codes "devDependencies") (codes "optionalDependencies"))
    ≡ Some Faults.Spec
optional_ones_come_third = refl

pub development_comes_last : groups_fault (both (codes "optionalDependencies") (codes "devDependencies"))
    ≡ Some Faults.Dependencies
development_comes_last = refl

pub the_version_comes_before_the_groups : package_fault (object (member (codes "dependencies") (array no_items)
    (member (codes "version") (number (unsigned 1)) no_members))) ≡ Some Faults.PackageVersion
the_version_comes_before_the_groups = refl

pub the_format_comes_before_the_packages : lock_fault (object (member (codes "lockfileVersion") (number (unsigned 4))
    (member (codes "packages") (array no_items) no_members))) ≡ Some Faults.Version
unfolding eq of_int
the_format_comes_before_the_packages = refl

pub the_first_package_comes_first : lock_fault (object (member (codes "lockfileVersion") (number (unsigned 3))
    (member (codes "packages") (object (member (codes "a") (array no_items)
    (member (codes "b") (object (member (codes "version") (array no_items) no_members)) no_members))) no_members)))
    ≡ Some Faults.Package
unfolding eq of_int
the_first_package_comes_first = refl
