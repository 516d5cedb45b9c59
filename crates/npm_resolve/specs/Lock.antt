-- A lock file of version 3: npm's "package-lock.json".
use Rattle.std.specs.Prelude.{◌≡◌, ℕ, List, [], ◌∷◌, codes, true}
use Rattle.serde_json.specs.Data.{Data, Members, boolean, no_members, number, object, put, unsigned}
use Rattle.npm_packages.specs.Folders.{place_in}
use Rattle.npm_resolve.specs.Installed.{InstalledValue}
use Rattle.npm_resolve.specs.Marks.{AreMarks}
use Rattle.npm_resolve.specs.Members.{package_data, root_data, with_copy}
use Rattle.npm_resolve.specs.declared.flat_locks.marks.Marks.{Marks}

-- the members, with that of a package in `node_modules`
abbrev pub with_package : (marks_of : List ℕ → Marks) → InstalledValue → Members → Members
with_package marks_of one members = put (place_in [] one.name) (package_data one (marks_of one.name)) members

abbrev pub with_packages : (marks_of : List ℕ → Marks) → List InstalledValue → Members → Members
with_packages marks_of [] members = members
with_packages marks_of (one ∷ others) members = with_packages marks_of others (with_package marks_of one members)

abbrev pub root_package : (root : Data) → Members
root_package root = put [] (root_data root) no_members

-- the root in the folder `""`, and the packages in its `node_modules`
abbrev pub packages_of : (root : Data) → List InstalledValue → (marks_of : List ℕ → Marks) → Members
packages_of root installed marks_of = with_packages marks_of installed (root_package root)

abbrev pub file_of : (root : Data) → (packages : Members) → Data
file_of root packages = object (put (codes "packages") (object packages) (put (codes "requires") (boolean true)
    (put (codes "lockfileVersion") (number (unsigned 3)) (with_copy (codes "version") root (with_copy (codes "name") root no_members)))))

-- The value is the lock file of the root and the packages, by the marks of each name.
pub record IsLock (root : Data) (installed : List InstalledValue) (lock : Data) : Type 0 where
  pub marks_of : List ℕ → Marks
  pub marked : (name : List ℕ) → AreMarks root installed name (marks_of name)
  pub whole : lock ≡ file_of root (packages_of root installed marks_of)
