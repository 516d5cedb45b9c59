-- Dependencies that differ between a manifest, `package.json`, and the lock file: npm's "npm ci", and "package.json",
-- from "dependencies" to "optionalDependencies".
use Rattle.std.specs.Prelude.{◌≡◌, ◌↔◌, ◌⊎◌, ◌||◌, ◌&&◌, ℕ, List, ◌++◌, Bool, true, false, not, if◌then◌else◌}
use Rattle.std.specs.Prelude.{Option, Some, None, is_some, bytes_eq, codes, map, option_and_then, option_map}
use Rattle.std.specs.Prelude.{string_bytes, unwrap_or}
use Rattle.std.specs.Cmp.Lexicographic.{slice_cmp}
use Rattle.std.specs.List.{Contains, filter_map}
use Rattle.std.specs.List.Sorted.{IsStrictlySortedBy}
use Rattle.std.specs.Option.{IsSome}
use Rattle.std.specs.Ordering.{nat_cmp}
use Rattle.serde_json.specs.Data.{Data, null}
use Rattle.serde_json.specs.Find.{as_object, get}
use Rattle.npm_packages.specs.Asked.{spec_in}
use Rattle.npm_packages.specs.Faults.{package_fault}
use Rattle.npm_packages.specs.declared.fault.Fault.{Fault}
use Rattle.npm_packages.specs.declared.fault.Fault.TheVariants as Faults
use Rattle.npm_lock.specs.declared.group.Group.{Group}
use Rattle.npm_lock.specs.declared.group.Group.TheVariants.{Dependencies, DevDependencies, OptionalDependencies}
use Rattle.npm_lock.specs.declared.group.Group.TheVariants.{PeerDependencies}
use Rattle.npm_lock.specs.declared.mismatch.Mismatch.{Mismatch}

-- ---- groups

-- the name of a group
abbrev pub group_text : Group → List ℕ
group_text Dependencies = codes "dependencies"
group_text DevDependencies = codes "devDependencies"
group_text OptionalDependencies = codes "optionalDependencies"
group_text PeerDependencies = codes "peerDependencies"

-- the group has this name
abbrev pub HasName : (member : Data) → Group → (name : List ℕ) → Type 0
HasName member group name = IsSome (option_and_then (get name) (get (group_text group) member))

-- the spec of a name in a group
abbrev pub spec_of : (member : Data) → Group → (name : List ℕ) → Option (List ℕ)
spec_of member group name = spec_in member (group_text group) name

-- ---- one name

-- a mismatch: the name has one spec in this group of the manifest, and another in the lock file; one may be absent
pub record MismatchValue : Type 0 where
  pub from : List ℕ
  pub group : Group
  pub name : List ℕ
  pub spec : Option (List ℕ)
  pub locked : Option (List ℕ)

-- a mismatch as a contract sees it
abbrev pub mismatch_value : Mismatch → MismatchValue
mismatch_value mismatch = record {
  from = string_bytes mismatch.from;
  group = mismatch.group;
  name = string_bytes mismatch.name;
  spec = option_map string_bytes mismatch.spec;
  locked = option_map string_bytes mismatch.locked;
}

-- both are the same spec, or both are absent
abbrev pub is_same : (spec locked : Option (List ℕ)) → Bool
is_same None None = true
is_same None (Some locked) = false
is_same (Some spec) None = false
is_same (Some spec) (Some locked) = bytes_eq spec locked

-- A name of `optionalDependencies` is compared there, and not in `dependencies`: npm takes it out of these when it
-- reads a manifest.
abbrev pub is_compared : (manifest entry : Data) → Group → (name : List ℕ) → Bool
is_compared manifest entry Dependencies name = not (is_some (spec_of manifest OptionalDependencies name)
    || is_some (spec_of entry OptionalDependencies name))
is_compared manifest entry DevDependencies name = true
is_compared manifest entry OptionalDependencies name = true
is_compared manifest entry PeerDependencies name = true

-- the mismatch of a name, if the manifest and the package `entry` of the lock file have different specs
abbrev pub mismatch_of : (folder : List ℕ) → (manifest entry : Data) → Group → (name : List ℕ) → Option MismatchValue
mismatch_of folder manifest entry group name =
    if not (is_same (spec_of manifest group name) (spec_of entry group name)) && is_compared manifest entry group name
    then Some (record {
      from = folder;
      group = group;
      name = name;
      spec = spec_of manifest group name;
      locked = spec_of entry group name;
    })
    else None

-- ---- all names

-- the names that a group has, in the manifest or in the lock file: each once, in the order of their bytes
pub record AreGroupNames (manifest entry : Data) (group : Group) (names : List (List ℕ)) : Type 0 where
  pub ascending : IsStrictlySortedBy (slice_cmp nat_cmp) names
  pub all : (name : List ℕ) → Contains names name ↔ (HasName manifest group name ⊎ HasName entry group name)

-- the mismatches of a group, in the order of their names
pub record AreGroupMismatches (folder : List ℕ) (manifest entry : Data) (group : Group) (found : List MismatchValue)
    : Type 0 where
  pub names : List (List ℕ)
  pub are_names : AreGroupNames manifest entry group names
  pub each : found ≡ filter_map (mismatch_of folder manifest entry group) names

-- those of all groups, one after another
pub record AreMismatchesOf (folder : List ℕ) (manifest entry : Data) (found : List MismatchValue) : Type 0 where
  pub dependencies : List MismatchValue
  pub development : List MismatchValue
  pub optional : List MismatchValue
  pub peers : List MismatchValue
  pub of_dependencies : AreGroupMismatches folder manifest entry Dependencies dependencies
  pub of_development : AreGroupMismatches folder manifest entry DevDependencies development
  pub of_optional : AreGroupMismatches folder manifest entry OptionalDependencies optional
  pub of_peers : AreGroupMismatches folder manifest entry PeerDependencies peers
  pub whole : found ≡ ((dependencies ++ development) ++ optional) ++ peers

-- ---- a manifest and a lock file

-- the package of the lock file in this folder
abbrev pub member_at : (lock : Data) → (folder : List ℕ) → Option Data
member_at lock folder = option_and_then (get folder) (get (codes "packages") lock)

-- the same, or one with no members if there is none
abbrev pub entry_of : (lock : Data) → (folder : List ℕ) → Data
entry_of lock folder = unwrap_or (member_at lock folder) null

-- the mismatches of a manifest and the package in the same folder of the lock file
abbrev pub AreMismatches : (lock : Data) → (folder : List ℕ) → (manifest : Data) → List Mismatch → Type 0
AreMismatches lock folder manifest list =
    AreMismatchesOf folder manifest (entry_of lock folder) (map mismatch_value list)

-- the fault of a value as a manifest, if it has one: it is then refused
abbrev pub manifest_fault : (manifest : Data) → Option Fault
manifest_fault manifest =
    if is_some (as_object manifest) then package_fault manifest else Some Faults.Manifest
