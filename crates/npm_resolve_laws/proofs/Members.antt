-- What the members of the lock file have under a key.
use Rattle.std.proofs.Common.{◌≡◌, ◌∙◌, ◌||◌, ℕ, List, [], ◌∷◌, Bool, None, Option, Some, ap, bytes_eq, codes, cond, false, if◌then◌else◌, not, option_and_then, option_map, refl, true}
use Rattle.std.proofs.lemmas.Slice.Eq.{bytes_eq-Decides}
use Rattle.std.specs.List.{list_any}
use Rattle.std.specs.Option.{option_map_or, option_or}
use Rattle.serde_json.proofs.Views.{get_member-put, get_member-put_other}
use Rattle.serde_json.specs.Data.{Data, Members, boolean, no_members, put, string}
use Rattle.serde_json.specs.Find.{as_str, get, get_member}
use Rattle.npm_packages.specs.Asked.{AskedValue, asked_of}
use Rattle.npm_texts.specs.Truth.{has_true}
use Rattle.npm_resolve.specs.Installed.{InstalledValue}
use Rattle.npm_resolve.specs.Members.{copied, has_script, license_of, member_in, package_data, root_data, sum_of, with_alias, with_copies, with_copy, with_dist, with_mark, with_marks, with_said, with_some}
use Rattle.npm_resolve.specs.declared.flat_locks.marks.Marks.{Marks}

-- ---- one member more

pub differ : (x y : List ℕ) → bytes_eq x y ≡ false → x ≡ y → ⊥
differ x y off is = let on : bytes_eq x y ≡ true = (bytes_eq-Decides x y).1 is in (cc (on, off))

module _ (q k : List ℕ) (other : bytes_eq q k ≡ false) where
  pub other_put : (d : Data) (ms : Members) → get_member q (put k d ms) ≡ get_member q ms
  other_put d ms = get_member-put_other q k d ms (differ q k other)

  pub other_some : (v : Option Data) (ms : Members) → get_member q (with_some k v ms) ≡ get_member q ms
  other_some None ms = refl
  other_some (Some d) ms = other_put d ms

  pub other_mark : (is_so : Bool) (ms : Members) → get_member q (with_mark k is_so ms) ≡ get_member q ms
  other_mark true ms = other_put (boolean true) ms
  other_mark false ms = refl

this_some : (k : List ℕ) (v : Option Data) (ms : Members) → get_member k ms ≡ None → get_member k (with_some k v ms) ≡ v
this_some k None ms none = none
this_some k (Some d) ms none = get_member-put k d ms

-- ---- copies

by_or : (a b : Bool) → (a || b) ≡ false → (a ≡ false) × (b ≡ false)
by_or true b off = absurd (cc off)
by_or false b off = (refl, off)

-- a key that is not copied
pub not_copied : (q : List ℕ) (keys : List (List ℕ)) (manifest : Data) (ms : Members) → list_any (bytes_eq q) keys ≡ false
    → get_member q (with_copies keys manifest ms) ≡ get_member q ms
not_copied q [] manifest ms off = refl
not_copied q (k ∷ keys) manifest ms off =
    let parts = by_or (bytes_eq q k) (list_any (bytes_eq q) keys) off in
    not_copied q keys manifest (with_copy k manifest ms) parts.1 ∙ other_some q k parts.0 (get k manifest) ms

-- what was copied stays, also if it is copied again
stays : (q : List ℕ) (keys : List (List ℕ)) (manifest : Data) (ms : Members) → get_member q ms ≡ get q manifest
    → get_member q (with_copies keys manifest ms) ≡ get q manifest
stays q [] manifest ms is = is
stays q (k ∷ keys) manifest ms is = stays q keys manifest (with_copy k manifest ms) (by_key (bytes_eq q k) refl) where
  again : (v : Option Data) → get q manifest ≡ v → get_member q (with_some q v ms) ≡ v
  again None none = is ∙ none
  again (Some d) some = get_member-put q d ms

  by_key : (b : Bool) → bytes_eq q k ≡ b → get_member q (with_copy k manifest ms) ≡ get q manifest
  by_key true same = rw (← (bytes_eq-Decides q k).0 same) (again (get q manifest) refl)
  by_key false off = other_some q k off (get k manifest) ms ∙ is

pub is_copied : (q : List ℕ) (keys : List (List ℕ)) (manifest : Data) (ms : Members) → list_any (bytes_eq q) keys ≡ true
    → get_member q ms ≡ None → get_member q (with_copies keys manifest ms) ≡ get q manifest
is_copied q [] manifest ms on none = absurd (cc on)
is_copied q (k ∷ keys) manifest ms on none = by_key (bytes_eq q k) refl (is_copied q keys manifest (with_copy k manifest ms)) where
  by_key : (b : Bool) → bytes_eq q k ≡ b
      → (list_any (bytes_eq q) keys ≡ true → get_member q (with_copy k manifest ms) ≡ None
      → get_member q (with_copies keys manifest (with_copy k manifest ms)) ≡ get q manifest)
      → get_member q (with_copies keys manifest (with_copy k manifest ms)) ≡ get q manifest
  by_key true same later = stays q keys manifest (with_copy k manifest ms)
      (rw (← (bytes_eq-Decides q k).0 same) (this_some q (get q manifest) ms none))
  by_key false off later = later (rw off at on) (other_some q k off (get k manifest) ms ∙ none)

-- ---- the keys of a root

-- a key that is neither of these two
pub past_said : (q : List ℕ) (manifest : Data) (ms : Members) → bytes_eq q (codes "hasInstallScript") ≡ false
    → bytes_eq q (codes "license") ≡ false → get_member q (with_said manifest ms) ≡ get_member q ms
past_said q manifest ms script license =
    other_mark q (codes "hasInstallScript") script (has_script manifest) (with_some (codes "license") (license_of manifest) ms)
    ∙ other_some q (codes "license") license (license_of manifest) ms

abbrev pub root_keys : List (List ℕ)
root_keys = codes "name" ∷ codes "version" ∷ codes "devDependencies" ∷ copied

pub of_root : (q : List ℕ) (root : Data) → list_any (bytes_eq q) root_keys ≡ true → bytes_eq q (codes "hasInstallScript") ≡ false
    → bytes_eq q (codes "license") ≡ false → get q (root_data root) ≡ get q root
of_root q root on script license = past_said q root (with_copies root_keys root no_members) script license ∙ is_copied q root_keys root no_members on refl

pub not_of_root : (q : List ℕ) (root : Data) → list_any (bytes_eq q) root_keys ≡ false → bytes_eq q (codes "hasInstallScript") ≡ false
    → bytes_eq q (codes "license") ≡ false → get q (root_data root) ≡ None
not_of_root q root off script license = past_said q root (with_copies root_keys root no_members) script license ∙ not_copied q root_keys root no_members off

-- ---- the keys of a package

abbrev pub package_keys : List (List ℕ)
package_keys = codes "deprecated" ∷ copied

pub past_marks : (q : List ℕ) (marks : Marks) (ms : Members) → bytes_eq q (codes "peer") ≡ false
    → bytes_eq q (codes "devOptional") ≡ false → bytes_eq q (codes "optional") ≡ false → bytes_eq q (codes "dev") ≡ false
    → get_member q (with_marks marks ms) ≡ get_member q ms
past_marks q marks ms peer both optional dev =
    let one = with_mark (codes "dev") marks.dev ms in
    let two = with_mark (codes "optional") marks.optional one in
    let three = with_mark (codes "devOptional") marks.dev_optional two in
    other_mark q (codes "peer") peer marks.peer three ∙ other_mark q (codes "devOptional") both marks.dev_optional two
    ∙ other_mark q (codes "optional") optional marks.optional one ∙ other_mark q (codes "dev") dev marks.dev ms

past_alias : (q : List ℕ) (one : InstalledValue) (ms : Members) → bytes_eq q (codes "name") ≡ false
    → get_member q (with_alias one ms) ≡ get_member q ms
past_alias q one ms name = by_name (bytes_eq one.of_package one.name) where
  by_name : (b : Bool) → get_member q (cond b ms (put (codes "name") (string one.of_package) ms)) ≡ get_member q ms
  by_name true = refl
  by_name false = other_put q (codes "name") name (string one.of_package) ms

past_dist : (q : List ℕ) (dist : Option Data) (ms : Members) → bytes_eq q (codes "integrity") ≡ false
    → bytes_eq q (codes "resolved") ≡ false → get_member q (with_dist dist ms) ≡ get_member q ms
past_dist q dist ms integrity resolved =
    let tarball = member_in dist (codes "tarball") in
    other_some q (codes "integrity") integrity (sum_of dist) (with_some (codes "resolved") tarball ms)
    ∙ other_some q (codes "resolved") resolved tarball ms

-- what stands before the copies
abbrev own : InstalledValue → Members
own one = with_dist (get (codes "dist") one.manifest) (with_alias one (put (codes "version") (string one.version) no_members))

module _ (q : List ℕ) (name : bytes_eq q (codes "name") ≡ false) (integrity : bytes_eq q (codes "integrity") ≡ false)
    (resolved : bytes_eq q (codes "resolved") ≡ false) where
  of_own : (one : InstalledValue) → get_member q (own one) ≡ get_member q (put (codes "version") (string one.version) no_members)
  of_own one = past_dist q (get (codes "dist") one.manifest) (with_alias one (put (codes "version") (string one.version) no_members)) integrity resolved
      ∙ past_alias q one (put (codes "version") (string one.version) no_members) name

  module _ (script : bytes_eq q (codes "hasInstallScript") ≡ false) (license : bytes_eq q (codes "license") ≡ false)
      (peer : bytes_eq q (codes "peer") ≡ false) (both : bytes_eq q (codes "devOptional") ≡ false)
      (optional : bytes_eq q (codes "optional") ≡ false) (dev : bytes_eq q (codes "dev") ≡ false) (one : InstalledValue)
      (marks : Marks) where
    past_all : get q (package_data one marks) ≡ get_member q (with_copies package_keys one.manifest (own one))
    past_all = past_marks q marks (with_said one.manifest (with_copies package_keys one.manifest (own one))) peer both optional dev
        ∙ past_said q one.manifest (with_copies package_keys one.manifest (own one)) script license

    pub of_package : list_any (bytes_eq q) package_keys ≡ true → bytes_eq q (codes "version") ≡ false
        → get q (package_data one marks) ≡ get q one.manifest
    of_package on version = past_all ∙ is_copied q package_keys one.manifest (own one) on
        (of_own one ∙ other_put q (codes "version") version (string one.version) no_members)

    pub not_of_package : list_any (bytes_eq q) package_keys ≡ false → bytes_eq q (codes "version") ≡ false
        → get q (package_data one marks) ≡ None
    not_of_package off version = past_all ∙ not_copied q package_keys one.manifest (own one) off
        ∙ of_own one ∙ other_put q (codes "version") version (string one.version) no_members

pub version_of_package : (one : InstalledValue) (marks : Marks) → get (codes "version") (package_data one marks) ≡ Some (string one.version)
version_of_package one marks =
    past_all (codes "version") refl refl refl refl refl refl refl refl refl one marks
    ∙ not_copied (codes "version") package_keys one.manifest (own one) refl
    ∙ of_own (codes "version") refl refl refl one
    ∙ get_member-put (codes "version") (string one.version) no_members

-- ---- dependencies

-- `asked_of`, by what is there of each group
abbrev spec_from : (group : Option Data) → (name : List ℕ) → Option (List ℕ)
spec_from group name = option_and_then as_str (option_and_then (get name) group)

abbrev asked_from : (group : Option Data) → (name : List ℕ) → (is_needed is_peer is_dev : Bool) → Option AskedValue
asked_from group name is_needed is_peer is_dev = option_map
    (λ spec. record { spec = spec; is_needed = is_needed; is_peer = is_peer; is_dev = is_dev; is_overridden = false })
    (spec_from group name)

abbrev all_from : (is_installed : Bool) → (name : List ℕ) → (dev optional plain peers meta : Option Data) → Option AskedValue
all_from is_installed name dev optional plain peers meta =
    option_or (if is_installed then None else asked_from dev name true false true)
    (option_or (asked_from optional name false false false)
    (option_or (asked_from plain name true false false)
    (asked_from peers name (not (option_map_or (has_true (codes "optional")) (option_and_then (get name) meta) false)) true false)))

module _ (is_installed : Bool) (name : List ℕ) (dev dev2 optional optional2 plain plain2 peers peers2 meta meta2 : Option Data) where
  alike : dev ≡ dev2 → optional ≡ optional2 → plain ≡ plain2 → peers ≡ peers2 → meta ≡ meta2
      → all_from is_installed name dev optional plain peers meta ≡ all_from is_installed name dev2 optional2 plain2 peers2 meta2
  alike a b c d e = ap (λ g. all_from is_installed name g optional plain peers meta) a
      ∙ ap (λ g. all_from is_installed name dev2 g plain peers meta) b
      ∙ ap (λ g. all_from is_installed name dev2 optional2 g peers meta) c
      ∙ ap (λ g. all_from is_installed name dev2 optional2 plain2 g meta) d
      ∙ ap (λ g. all_from is_installed name dev2 optional2 plain2 peers2 g) e

pub asks_of_root : (root : Data) (name : List ℕ) → asked_of (root_data root) false name ≡ asked_of root false name
asks_of_root root name = alike false name _ _ _ _ _ _ _ _ _ _ (of_root (codes "devDependencies") root refl refl refl)
    (of_root (codes "optionalDependencies") root refl refl refl) (of_root (codes "dependencies") root refl refl refl)
    (of_root (codes "peerDependencies") root refl refl refl) (of_root (codes "peerDependenciesMeta") root refl refl refl)

module _ (one : InstalledValue) (marks : Marks) where
  pub asks_of_package : (name : List ℕ) → asked_of (package_data one marks) true name ≡ asked_of one.manifest true name
  asks_of_package name = alike true name None None _ _ _ _ _ _ _ _ refl
      (of_package (codes "optionalDependencies") refl refl refl refl refl refl refl refl refl one marks refl refl)
      (of_package (codes "dependencies") refl refl refl refl refl refl refl refl refl one marks refl refl)
      (of_package (codes "peerDependencies") refl refl refl refl refl refl refl refl refl one marks refl refl)
      (of_package (codes "peerDependenciesMeta") refl refl refl refl refl refl refl refl refl one marks refl refl)

  pub no_link : get (codes "link") (package_data one marks) ≡ None
  no_link = not_of_package (codes "link") refl refl refl refl refl refl refl refl refl one marks refl refl

  pub nothing_accepted : get (codes "acceptDependencies") (package_data one marks) ≡ None
  nothing_accepted = not_of_package (codes "acceptDependencies") refl refl refl refl refl refl refl refl refl one marks refl refl
