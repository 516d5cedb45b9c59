-- What the definitions say of some lock files of version 1.
use Rattle.std.proofs.Common.{◌≡◌, ℕ, List, [], ◌∷◌, true, false, codes, refl, Some, None}
use Rattle.std.specs.Float.Ieee.{eq, of_int}
use Rattle.std.specs.Path.{rsplit_once}
use Rattle.serde_json.specs.Data.{Data, array, boolean, member, no_items, no_members, null, number, object, string}
use Rattle.serde_json.specs.Data.{unsigned}
use Rattle.npm_lock.specs.VersionOne.{any_fault, is_version_one, manifest_fault, member_of, packages_below, packages_of, version_one_fault}
use Rattle.npm_lock.specs.Identity.{name_in, version_in}
use Rattle.npm_packages.specs.declared.fault.Fault.TheVariants.{Dependencies, Entry, Manifest}

-- an object with one member
abbrev one : (key : List ℕ) → Data → Data
one key value = object (member key value no_members)

-- `b` is in the folder of `a`, which requires it
abbrev b : Data
b = one (codes "version") (string (codes "1.1.0"))

abbrev a : Data
a = object (member (codes "dependencies") (one (codes "b") b)
    (member (codes "requires") (one (codes "b") (string (codes "^1")))
    (member (codes "version") (string (codes "1.0.0")) no_members)))

abbrev lock : Data
lock = one (codes "dependencies") (one (codes "a") a)

abbrev manifest : Data
manifest = one (codes "dependencies") (one (codes "a") (string (codes "^1")))

-- ---- packages

pub a_package_comes_before_those_inside_it : packages_below [] lock
    ≡ record { folder = codes "node_modules/a"; member = a }
    ∷ record { folder = codes "node_modules/a/node_modules/b"; member = b } ∷ []
a_package_comes_before_those_inside_it = refl

pub the_root_is_the_manifest : packages_of lock (Some manifest) ≡ object (member (codes "") manifest
    (member (codes "node_modules/a") (member_of (codes "node_modules/a") a)
    (member (codes "node_modules/a/node_modules/b") (member_of (codes "node_modules/a/node_modules/b") b) no_members)))
unfolding name_in rsplit_once version_in
the_root_is_the_manifest = refl

-- of two packages in one folder the later in the order of their names' bytes counts
pub the_later_of_one_folder_counts : packages_of (one (codes "dependencies")
    (object (member (codes "a") (one (codes "dependencies") (one (codes "b") b))
    (member (codes "a/node_modules/b") (object no_members) no_members)))) None
    ≡ object (member (codes "") (object no_members) (member (codes "node_modules/a") (object no_members)
    (member (codes "node_modules/a/node_modules/b") (object no_members) no_members)))
unfolding name_in rsplit_once version_in
the_later_of_one_folder_counts = refl

-- ---- members of a package

pub an_alias_is_named : member_of (codes "b") (one (codes "version") (string (codes "npm:c@1.0.0")))
    ≡ object (member (codes "name") (string (codes "c")) (member (codes "version") (string (codes "1.0.0")) no_members))
unfolding name_in rsplit_once version_in
an_alias_is_named = refl

-- ---- tarballs

-- `c` of version 1.2.0, where a registry has it
abbrev tarball : Data
tarball = string (codes "https://r/c/-/c-1.2.0.tgz")

pub it_is_where_npm_finds_it : member_of (codes "node_modules/b")
    (object (member (codes "resolved") tarball (member (codes "version") (string (codes "1.0.0")) no_members)))
    ≡ object (member (codes "name") (string (codes "c")) (member (codes "version") (string (codes "1.2.0")) no_members))
unfolding name_in rsplit_once version_in
it_is_where_npm_finds_it = refl

pub a_confirmed_version_counts : member_of (codes "node_modules/b")
    (object (member (codes "integrity") (string (codes "sha512-")) (member (codes "resolved") tarball
    (member (codes "version") (string (codes "1.0.0")) no_members))))
    ≡ one (codes "version") (string (codes "1.0.0"))
unfolding name_in rsplit_once version_in
a_confirmed_version_counts = refl

-- ---- which lock files these are

pub one_is_version_one : is_version_one (one (codes "lockfileVersion") (number (unsigned 1))) ≡ true
unfolding eq of_int
one_is_version_one = refl

pub a_file_of_no_version_is : is_version_one lock ≡ true
a_file_of_no_version_is = refl

pub a_file_with_packages_is_not : is_version_one (object (member (codes "dependencies") (object no_members)
    (member (codes "packages") (object no_members) no_members))) ≡ false
a_file_with_packages_is_not = refl

-- ---- faults

pub a_deep_fault_is_found : any_fault (one (codes "dependencies")
    (one (codes "a") (one (codes "dependencies") (one (codes "b") null)))) None ≡ Some Entry
a_deep_fault_is_found = refl

pub the_file_comes_before_the_manifest : version_one_fault (one (codes "dependencies") (array no_items)) (Some null)
    ≡ Some Dependencies
the_file_comes_before_the_manifest = refl

pub a_link_is_no_manifest : manifest_fault (one (codes "link") (boolean true)) ≡ Some Manifest
a_link_is_no_manifest = refl
