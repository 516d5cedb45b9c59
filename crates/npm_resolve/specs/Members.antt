-- The members of `packages`: npm's "package-lock.json", "packages".
use Rattle.std.specs.Prelude.{◌||◌, ◌++◌, ℕ, List, [], ◌∷◌, Bool, true, false, if◌then◌else◌, Option, Some, None, bytes_eq, codes, option_and_then}
use Rattle.std.specs.Prelude.{option_map, unwrap_or}
use Rattle.std.specs.Option.{option_map_or, option_or}
use Rattle.std.specs.Result.{result_ok}
use Rattle.base64.specs.Engines.{standard}
use Rattle.base64.specs.GeneralPurpose.{encode_of}
use Rattle.hex.specs.Hex.{decode_sized}
use Rattle.serde_json.specs.Data.{Data, Members, boolean, no_members, object, put, string}
use Rattle.serde_json.specs.Find.{as_str, get}
use Rattle.npm_texts.specs.Truth.{has_true}
use Rattle.npm_resolve.specs.Installed.{InstalledValue}
use Rattle.npm_resolve.specs.declared.flat_locks.marks.Marks.{Marks}

-- ---- one member more

-- the members, with a value for the key if there is one
abbrev pub with_some : (key : List ℕ) → Option Data → Members → Members
with_some key None members = members
with_some key (Some value) members = put key value members

-- the members, with what the manifest has for the key
abbrev pub with_copy : (key : List ℕ) → (manifest : Data) → Members → Members
with_copy key manifest members = with_some key (get key manifest) members

-- the members, with `true` for the key if it is so
abbrev pub with_mark : (key : List ℕ) → (is_so : Bool) → Members → Members
with_mark key is_so members = if is_so then put key (boolean true) members else members

-- the members, with what the manifest has for each of these keys
abbrev pub with_copies : (keys : List (List ℕ)) → (manifest : Data) → Members → Members
with_copies [] manifest members = members
with_copies (key ∷ keys) manifest members = with_copies keys manifest (with_copy key manifest members)

-- ---- what a root and a package have alike

-- what is written as the manifest has it
abbrev pub copied : List (List ℕ)
copied = codes "dependencies" ∷ codes "optionalDependencies" ∷ codes "peerDependencies" ∷ codes "peerDependenciesMeta" ∷ codes "bin"
    ∷ codes "engines" ∷ codes "os" ∷ codes "cpu" ∷ codes "libc" ∷ []

-- the licence; of an object, as old manifests have it, the `type`
abbrev pub license_of : (manifest : Data) → Option Data
license_of manifest = option_map (λ license. unwrap_or (get (codes "type") license) license) (get (codes "license") manifest)

-- a script that runs when the package is installed
abbrev pub runs_script : (scripts : Data) → Bool
runs_script scripts = has_true (codes "preinstall") scripts || (has_true (codes "install") scripts || has_true (codes "postinstall") scripts)

abbrev pub has_script : (manifest : Data) → Bool
has_script manifest = has_true (codes "hasInstallScript") manifest || option_map_or runs_script (get (codes "scripts") manifest) false

abbrev pub with_said : (manifest : Data) → Members → Members
with_said manifest members = with_mark (codes "hasInstallScript") (has_script manifest)
    (with_some (codes "license") (license_of manifest) members)

-- ---- the root

abbrev pub root_data : (root : Data) → Data
root_data root = object (with_said root (with_copies (codes "name" ∷ codes "version" ∷ codes "devDependencies" ∷ copied) root no_members))

-- ---- a package

-- the name in the registry, if the package is installed under another one
abbrev pub with_alias : InstalledValue → Members → Members
with_alias one members = if bytes_eq one.of_package one.name then members else put (codes "name") (string one.of_package) members

abbrev pub member_in : Option Data → (key : List ℕ) → Option Data
member_in value key = option_and_then (get key) value

-- the 20 bytes of a `shasum`, if it is 40 hexadecimal digits
abbrev pub sha1_bytes : (shasum : Option Data) → Option (List ℕ)
sha1_bytes shasum = option_and_then (λ text. result_ok (decode_sized text 20)) (option_and_then as_str shasum)

-- the same as npm writes it: `sha1-`, and the bytes in base64
abbrev pub sha1_of : (shasum : Option Data) → Option Data
sha1_of shasum = option_map (λ bytes. string (codes "sha1-" ++ encode_of standard bytes)) (sha1_bytes shasum)

-- the sum of the tarball: old documents have a `shasum` alone
abbrev pub sum_of : (dist : Option Data) → Option Data
sum_of dist = option_or (member_in dist (codes "integrity")) (sha1_of (member_in dist (codes "shasum")))

-- where the tarball is, and its sum
abbrev pub with_dist : (dist : Option Data) → Members → Members
with_dist dist members = with_some (codes "integrity") (sum_of dist)
    (with_some (codes "resolved") (member_in dist (codes "tarball")) members)

-- why the package is not installed everywhere
abbrev pub with_marks : Marks → Members → Members
with_marks marks members = with_mark (codes "peer") marks.peer (with_mark (codes "devOptional") marks.dev_optional
    (with_mark (codes "optional") marks.optional (with_mark (codes "dev") marks.dev members)))

abbrev pub package_data : InstalledValue → Marks → Data
package_data one marks = object (with_marks marks (with_said one.manifest (with_copies (codes "deprecated" ∷ copied) one.manifest
    (with_dist (get (codes "dist") one.manifest) (with_alias one (put (codes "version") (string one.version) no_members))))))
