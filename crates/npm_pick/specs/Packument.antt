-- The document of a package, as a registry serves it: npm's "Package metadata". Its content is not checked.
use Rattle.std.specs.Prelude.{ℕ, List, [], ◌∷◌, ◌++◌, Bool, Option, None, codes, if◌then◌else◌, is_some, option_and_then}
use Rattle.std.specs.Option.{option_map_or, option_or}
use Rattle.serde_json.specs.Data.{Data, Members, member, no_members}
use Rattle.serde_json.specs.Find.{as_object, as_str, get, get_member}

-- a member of `versions`: its key, which should be a version, and its value, which should be a manifest
pub record Release : Type 0 where
  pub key : List ℕ
  pub manifest : Data

-- all members, in the order of their keys
abbrev pub releases_among : Members → List Release
releases_among no_members = []
releases_among (member key manifest others) = record { key = key; manifest = manifest } ∷ releases_among others

-- all members of a list of versions, or none if the list is absent
abbrev pub releases_in : (listed : Option Members) → List Release
releases_in listed = option_map_or releases_among listed []

-- the manifest that such a list has for a key
abbrev pub manifest_in : (listed : Option Members) → (key : List ℕ) → Option Data
manifest_in listed key = option_and_then (get_member key) listed

-- ---- the lists of a document

-- the member `versions`, if it is an object
abbrev pub versions_of : (packument : Data) → Option Members
versions_of packument = option_and_then as_object (get (codes "versions") packument)

-- the versions that are staged: `{"stagedVersions": {"versions": {"2.0.0": {}}}}`. They count only with `include_staged`.
abbrev pub staged_of : (include_staged : Bool) → (packument : Data) → Option Members
staged_of include_staged packument =
    if include_staged then option_and_then versions_of (get (codes "stagedVersions") packument) else None

-- the versions that a policy restricts: `{"policyRestrictions": {"versions": {"1.0.0": {}}}}`
abbrev pub restricted_of : (packument : Data) → Option Members
restricted_of packument = option_and_then versions_of (get (codes "policyRestrictions") packument)

-- ---- one version, by its key

-- its manifest in `versions`
abbrev pub manifest_of : (packument : Data) → (key : List ℕ) → Option Data
manifest_of packument key = manifest_in (versions_of packument) key

-- its manifest in `versions`, or else among the staged versions, or else among the restricted ones
abbrev pub candidate_of : (include_staged : Bool) → (packument : Data) → (key : List ℕ) → Option Data
candidate_of include_staged packument key =
    option_or (manifest_of packument key)
    (option_or (manifest_in (staged_of include_staged packument) key) (manifest_in (restricted_of packument) key))

abbrev pub is_staged : (include_staged : Bool) → (packument : Data) → (key : List ℕ) → Bool
is_staged include_staged packument key = is_some (manifest_in (staged_of include_staged packument) key)

abbrev pub is_restricted : (packument : Data) → (key : List ℕ) → Bool
is_restricted packument key = is_some (manifest_in (restricted_of packument) key)

-- the version that a tag names: `{"dist-tags": {"latest": "1.2.3"}}`
abbrev pub tagged : (packument : Data) → (tag : List ℕ) → Option (List ℕ)
tagged packument tag = option_and_then as_str (option_and_then (get tag) (get (codes "dist-tags") packument))

-- ---- all of them

-- the versions that can be picked: all of `versions`, then the staged ones, and then the restricted ones
abbrev pub candidates_of : (include_staged : Bool) → (packument : Data) → List Release
candidates_of include_staged packument =
    (releases_in (versions_of packument) ++ releases_in (staged_of include_staged packument))
    ++ releases_in (restricted_of packument)
