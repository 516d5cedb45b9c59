-- Which version of a document is picked, or why none is: npm's "npm-pick-manifest", "Algorithm".
use Rattle.std.specs.Prelude.{◌≡◌, ◌↔◌, ◌⊎◌, ◌++◌, ℕ, List, Bool, true, false, Option, Some, None, Result, Ok, Err}
use Rattle.std.specs.Prelude.{IsTrue, bytes_eq, codes, if◌then◌else◌, option_map}
use Rattle.std.specs.List.{AllByRecursion}
use Rattle.serde_json.specs.Data.{Data}
use Rattle.serde_json.specs.View.{view}
use Rattle.node_semver.specs.Versions.{VersionValue, version_text, without_build}
use Rattle.npm_texts.specs.InstalledVersions.{IsInstalledVersion}
use Rattle.npm_texts.specs.RangeText.{is_plain}
use Rattle.npm_texts.specs.Admission.{Admits, IsNoRange, of_dependencies}
use Rattle.npm_pick.specs.Packument.{Release, candidate_of, candidates_of, is_restricted, is_staged, manifest_of, tagged}
use Rattle.npm_pick.specs.Rank.{FitsEngines, HasNone, IsAvoided, IsBest, Rank, is_deprecated}
use Rattle.npm_pick.specs.Times.{is_published}
use Rattle.npm_pick.specs.Wanted.{IsNoVersion, is_tag, up_to}
use Rattle.npm_pick.specs.declared.error.PickError.{PickError}
use Rattle.npm_pick.specs.declared.error.PickError.TheVariants as Errors
use Rattle.npm_pick.specs.declared.options.Options.{Options}
use Rattle.npm_pick.specs.declared.picked.Picked.{Picked}

-- The version that is picked: its key, its manifest, and whether it should be avoided. `is_outside` means that it
-- replaces a version to avoid, and `is_major` that it was also picked for `*`.
pub record PickedValue : Type 0 where
  pub key : List ℕ
  pub manifest : Data
  pub is_avoided : Bool
  pub is_outside : Bool
  pub is_major : Bool

abbrev pub picked_value : Picked → PickedValue
picked_value picked = record {
  key = picked.key.now;
  manifest = view picked.manifest.now;
  is_avoided = picked.is_avoided;
  is_outside = picked.is_outside;
  is_major = picked.is_major;
}

-- a version that replaces no other
abbrev pub inside : (key : List ℕ) → (manifest : Data) → (is_avoided : Bool) → PickedValue
inside key manifest is_avoided = record {
  key = key;
  manifest = manifest;
  is_avoided = is_avoided;
  is_outside = false;
  is_major = false;
}

-- the value of a result
abbrev pub answer_value : Result Picked PickError → Result PickedValue PickError
answer_value (Ok picked) = Ok (picked_value picked)
answer_value (Err error) = Err error

-- the range to avoid
abbrev pub avoid_of : Options → Option (List ℕ)
avoid_of options = option_map (λ text. text.now) options.avoid

-- the key is a version that should be avoided
abbrev pub IsKeyAvoided : Options → (key : List ℕ) → Type 0
IsKeyAvoided options key = (v : VersionValue) × IsInstalledVersion key v × IsAvoided (avoid_of options) v

-- the key is a version in the range. The range `*` has every key, also that of a prerelease.
abbrev pub IsInRange : (range key : List ℕ) → Type 0
IsInRange range key = (bytes_eq range (codes "*") ≡ true)
    ⊎ ((v : VersionValue) × IsInstalledVersion key v × Admits of_dependencies range v)

-- ---- one key

-- the result of a pick of this key and no other
pub data IsPickedAt (packument : Data) (options : Options) (key : List ℕ) : Result PickedValue PickError → Type 0 where
  there : (manifest : Data) (is_avoided : Bool) → is_published options.before packument key ≡ true
      → candidate_of options.include_staged packument key ≡ Some manifest
      → (IsTrue is_avoided ↔ IsKeyAvoided options key)
      → IsPickedAt packument options key (Ok (inside key manifest is_avoided))
  late : is_published options.before packument key ≡ false → IsPickedAt packument options key (Err Errors.NoVersion)
  absent : candidate_of options.include_staged packument key ≡ None
      → IsPickedAt packument options key (Err Errors.NoVersion)

-- ---- a range

-- The key is in the range and in time, not to be avoided, not restricted and not staged; its manifest is not deprecated,
-- and fits the engines
pub record IsSuitable (packument : Data) (options : Options) (range key : List ℕ) (manifest : Data) : Type 0 where
  pub admitted : IsInRange range key
  pub published : is_published options.before packument key ≡ true
  pub kept : ¬ IsKeyAvoided options key
  pub allowed : is_restricted packument key ≡ false
  pub whole : is_staged options.include_staged packument key ≡ false
  pub lasting : is_deprecated manifest ≡ false
  pub fitting : FitsEngines options manifest

-- the version of the default tag is picked: it is in `versions`, and is suitable
pub record IsDefault (packument : Data) (options : Options) (range key : List ℕ) (manifest : Data) : Type 0 where
  pub tag : tagged packument options.default_tag.now ≡ Some key
  pub there : manifest_of packument key ≡ Some manifest
  pub suitable : IsSuitable packument options range key manifest

-- no version is picked for the default tag
abbrev pub HasNoDefault : (packument : Data) → Options → (range : List ℕ) → Type 0
HasNoDefault packument options range = (key : List ℕ) (manifest : Data) → ¬ IsDefault packument options range key manifest

-- no version of the document is in time
abbrev pub HasNoneInTime : (packument : Data) → Options → Type 0
HasNoneInTime packument options =
    AllByRecursion (λ (release : Release). is_published options.before packument release.key ≡ false)
    (candidates_of options.include_staged packument)

-- What is picked for a range: the version of the default tag, or else the one with the highest rank
pub data IsPickedIn (packument : Data) (options : Options) (range : List ℕ) : Result PickedValue PickError → Type 0
  where
    by_default : (key : List ℕ) (manifest : Data) → IsDefault packument options range key manifest
        → IsPickedIn packument options range (Ok (inside key manifest false))
    by_rank : (best : Release) (rank : Rank) → HasNoDefault packument options range
        → IsBest packument options range (candidates_of options.include_staged packument) best rank
        → IsPickedIn packument options range (Ok (inside best.key best.manifest rank.is_avoided))
    empty : HasNoDefault packument options range → HasNoneInTime packument options
        → IsPickedIn packument options range (Err Errors.NoVersions)
    none : HasNoDefault packument options range → ¬ HasNoneInTime packument options
        → HasNone packument options range (candidates_of options.include_staged packument)
        → IsPickedIn packument options range (Err Errors.NoneInRange)

-- ---- the wanted text

-- The version that is picked for a tag: the one that it names, as `1.2.3`. If that was published too late, the one that
-- is picked for `<=1.2.3`.
pub data IsPickedByTag (packument : Data) (options : Options) (tag : List ℕ) : Result PickedValue PickError → Type 0
  where
    named : (key : List ℕ) (answer : Result PickedValue PickError) → tagged packument tag ≡ Some key
        → is_published options.before packument key ≡ true → IsPickedAt packument options key answer
        → IsPickedByTag packument options tag answer
    earlier : (key : List ℕ) (answer : Result PickedValue PickError) → tagged packument tag ≡ Some key
        → is_published options.before packument key ≡ false → ¬ IsNoRange of_dependencies (up_to key)
        → IsPickedIn packument options (up_to key) answer → IsPickedByTag packument options tag answer
    odd : (key : List ℕ) → tagged packument tag ≡ Some key → is_published options.before packument key ≡ false
        → IsNoRange of_dependencies (up_to key) → IsPickedByTag packument options tag (Err Errors.Wanted)
    no_tag : tagged packument tag ≡ None → IsPickedByTag packument options tag (Err Errors.NoTag)

-- The version that is picked for a version, a range or a tag. For a version its key has no build: for `=v1.2.3+a` it is
-- `1.2.3`.
pub data IsPickedByText (packument : Data) (options : Options) (wanted : List ℕ)
    : Result PickedValue PickError → Type 0 where
  version : (v : VersionValue) (answer : Result PickedValue PickError) → IsInstalledVersion wanted v
      → IsPickedAt packument options (version_text (without_build v)) answer
      → IsPickedByText packument options wanted answer
  range : (answer : Result PickedValue PickError) → IsNoVersion wanted → ¬ IsNoRange of_dependencies wanted
      → IsPickedIn packument options wanted answer → IsPickedByText packument options wanted answer
  tag : (answer : Result PickedValue PickError) → IsNoVersion wanted → IsNoRange of_dependencies wanted
      → is_tag wanted ≡ true → IsPickedByTag packument options wanted answer
      → IsPickedByText packument options wanted answer
  refused : IsNoVersion wanted → IsNoRange of_dependencies wanted → is_tag wanted ≡ false
      → IsPickedByText packument options wanted (Err Errors.Wanted)

-- What is picked for any text. A location and an alias, as `1.0.0 || a.tgz` and `npm:a@1`, are refused.
pub data IsPickedFor (packument : Data) (options : Options) (wanted : List ℕ) : Result PickedValue PickError → Type 0
  where
    by_text : (answer : Result PickedValue PickError) → is_plain wanted ≡ true
        → IsPickedByText packument options wanted answer → IsPickedFor packument options wanted answer
    elsewhere : is_plain wanted ≡ false → IsPickedFor packument options wanted (Err Errors.Wanted)

-- ---- in place of a version to avoid

-- the caret range of a version: `^1.2.3`
abbrev pub caret_of : (key : List ℕ) → List ℕ
caret_of key = codes "^" ++ key

-- for this text a version to avoid is picked
abbrev pub PicksAvoided : (packument : Data) → Options → (wanted key : List ℕ) → Type 0
PicksAvoided packument options wanted key = (picked : PickedValue)
    × IsPickedFor packument options wanted (Ok picked) × (picked.is_avoided ≡ true) × (picked.key ≡ key)

-- for this text no version to avoid is picked: another, or none
abbrev pub PicksOther : (packument : Data) → Options → (wanted : List ℕ) → Result PickedValue PickError → Type 0
PicksOther packument options wanted (Ok picked) =
    IsPickedFor packument options wanted (Ok picked) × (picked.is_avoided ≡ false)
PicksOther packument options wanted (Err error) = IsPickedFor packument options wanted (Err error)

-- the picked version, with the mark that it replaces a version to avoid
abbrev pub outside : (is_major : Bool) → Result PickedValue PickError → Result PickedValue PickError
outside is_major (Ok picked) = Ok (record {
  key = picked.key;
  manifest = picked.manifest;
  is_avoided = picked.is_avoided;
  is_outside = true;
  is_major = is_major;
})
outside is_major (Err error) = Err error

-- the version that is picked for `*`, if it is not one to avoid
pub data IsPickedOfAll (packument : Data) (options : Options) : Result PickedValue PickError → Type 0 where
  other : (answer : Result PickedValue PickError) → PicksOther packument options (codes "*") answer
      → IsPickedOfAll packument options (outside true answer)
  avoided : (key : List ℕ) → PicksAvoided packument options (codes "*") key
      → IsPickedOfAll packument options (Err Errors.Avoided)

-- the version that replaces one to avoid: a compatible one, or else any
pub data IsPickedBeside (packument : Data) (options : Options) (key : List ℕ) : Result PickedValue PickError → Type 0
  where
    compatible : (answer : Result PickedValue PickError) → PicksOther packument options (caret_of key) answer
        → IsPickedBeside packument options key (outside false answer)
    of_all : (second : List ℕ) (answer : Result PickedValue PickError)
        → PicksAvoided packument options (caret_of key) second → IsPickedOfAll packument options answer
        → IsPickedBeside packument options key answer

-- The version that is picked with `avoid_strict`: the one for the text or, if that is one to avoid, the one that
-- replaces it
pub data IsPickedStrictly (packument : Data) (options : Options) (wanted : List ℕ)
    : Result PickedValue PickError → Type 0 where
  as_wanted : (answer : Result PickedValue PickError) → PicksOther packument options wanted answer
      → IsPickedStrictly packument options wanted answer
  beside : (key : List ℕ) (answer : Result PickedValue PickError) → PicksAvoided packument options wanted key
      → IsPickedBeside packument options key answer → IsPickedStrictly packument options wanted answer

-- ---- the result

-- the version that is picked, even if a policy restricts it
abbrev pub IsChosen : (avoid_strict : Bool) → (packument : Data) → Options → (wanted : List ℕ)
    → Result PickedValue PickError → Type 0
IsChosen true packument options wanted answer = IsPickedStrictly packument options wanted answer
IsChosen false packument options wanted answer = IsPickedFor packument options wanted answer

-- a version that a policy restricts is forbidden
abbrev pub allowed : (packument : Data) → Result PickedValue PickError → Result PickedValue PickError
allowed packument (Ok picked) = if is_restricted packument picked.key then Err Errors.Forbidden else Ok picked
allowed packument (Err error) = Err error

-- The version that is picked for a text, or why there is none
pub record IsPicked (packument : Data) (options : Options) (wanted : List ℕ) (answer : Result PickedValue PickError)
    : Type 0 where
  pub chosen : Result PickedValue PickError
  pub so : IsChosen options.avoid_strict packument options wanted chosen
  pub permitted : answer ≡ allowed packument chosen

-- the result, unless an allocation failed
abbrev pub IsAnswer : (Result PickedValue PickError → Type 0) → Result PickedValue PickError → Type 0
IsAnswer Holds answer = (answer ≡ Err Errors.Memory) ⊎ Holds answer
