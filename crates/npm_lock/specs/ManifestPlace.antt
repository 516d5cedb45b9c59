-- A manifest in the place of a package of the lock file: npm's "npm ls" and "npm ci" read the root and each workspace
-- from their manifests.
use Rattle.std.specs.Prelude.{ℕ, List, [], ◌∷◌, Bool, false, true, if◌then◌else◌, bytes_eq, codes, is_some}
use Rattle.serde_json.specs.Data.{Data, Members, array, boolean, member, no_members, null, number, object, put, string}
use Rattle.serde_json.specs.Find.{get}
use Rattle.npm_texts.specs.Truth.{has_true}
use Rattle.npm_lock.specs.Mismatches.{entry_of}

-- an object with other members; another value stays
abbrev pub with_members : (change : Members → Members) → Data → Data
with_members change null = null
with_members change (boolean b) = boolean b
with_members change (number n) = number n
with_members change (string text) = string text
with_members change (array items) = array items
with_members change (object members) = object (change members)

-- an object with this member, in the place of one of that name if there is one
abbrev pub with_member : (name : List ℕ) → (value : Data) → Data → Data
with_member name value = with_members (put name value)

-- A manifest as a package of the lock file. These members are of lock files alone, and mean nothing in a manifest.
abbrev pub as_package : (manifest : Data) → Data
as_package manifest = with_member (codes "peer") (boolean false) (with_member (codes "dev") (boolean false)
    (with_member (codes "optional") (boolean false) (with_member (codes "link") (boolean false) manifest)))

-- the package with this mark, if `entry` has it
abbrev pub with_mark : (mark : List ℕ) → (entry made : Data) → Data
with_mark mark entry made = if has_true mark entry then with_member mark (boolean true) made else made

-- the package with the marks of `entry`, which say why it is installed
abbrev pub with_marks : (entry made : Data) → Data
with_marks entry made = with_mark (codes "peer") entry (with_mark (codes "optional") entry (with_mark (codes "dev") entry made))

-- A manifest as the package in a folder, where the lock file has `entry`, whose marks stay. npm reads no marks of the root.
abbrev pub package_at : (folder : List ℕ) → (entry manifest : Data) → Data
package_at [] entry manifest = as_package manifest
package_at (byte ∷ folder) entry manifest = with_marks entry (as_package manifest)

-- the value of a name, changed so
abbrev pub changed_at : (name : List ℕ) → (change : Data → Data) → Members → Members
changed_at name change no_members = no_members
changed_at name change (member key value others) = if bytes_eq name key
    then member key (change value) others
    else member key value (changed_at name change others)

-- the lock file with this package in a folder
abbrev pub with_package : (folder : List ℕ) → (made lock : Data) → Data
with_package folder made = with_members (changed_at (codes "packages") (with_member folder made))

-- the lock file with a manifest in the place of the package in this folder
abbrev pub with_manifest : (folder : List ℕ) → (manifest lock : Data) → Data
with_manifest folder manifest lock = with_package folder (package_at folder (entry_of lock folder) manifest) lock

-- ---- `overrides` in a lock file, which npm does not write

-- the root of the lock file has `overrides`
abbrev pub has_overrides : (lock : Data) → Bool
has_overrides lock = is_some (get (codes "overrides") (entry_of lock []))

-- a package whose `overrides` do not count
abbrev pub plain : (entry : Data) → Data
plain entry = with_member (codes "overrides") null entry

-- The lock file whose root has no `overrides` that count: npm reads those of the root's manifest.
abbrev pub without_overrides : (lock : Data) → Data
without_overrides lock = if has_overrides lock then with_package [] (plain (entry_of lock [])) lock else lock
