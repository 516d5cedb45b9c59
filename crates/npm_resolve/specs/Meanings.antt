-- Which candidates a version, a range or a tag allows: npm's "package.json", "dependencies", and "npm-pick-manifest".
use Rattle.std.specs.Prelude.{◌≡◌, ◌↔◌, ◌⊎◌, ⊤, ℕ, ℤ, List, true, false, Option, Some, None, bytes_eq, codes, string_bytes}
use Rattle.serde_json.specs.Data.{Data}
use Rattle.node_semver.specs.Ranges.{RangeAdmits}
use Rattle.node_semver.specs.Versions.{VersionValue, version_text, without_build}
use Rattle.npm_texts.specs.Admission.{Admits, IsNoRange, of_dependencies}
use Rattle.npm_texts.specs.InstalledVersions.{IsInstalledVersion}
use Rattle.npm_texts.specs.RangeText.{filled, is_plain}
use Rattle.npm_pick.specs.Packument.{tagged}
use Rattle.npm_pick.specs.Times.{is_published}
use Rattle.npm_pick.specs.Wanted.{IsNoVersion, is_tag, up_to}
use Rattle.npm_resolve.specs.declared.candidates.candidate.Candidate.{Candidate}
use Rattle.npm_resolve.specs.declared.candidates.meaning.Meaning.{Meaning}
use Rattle.npm_resolve.specs.declared.candidates.meaning.Meaning.TheVariants as Meanings

-- ---- meanings

-- the version with one key alone; the versions in a range; or nothing
pub data MeaningValue : Type 0 where
  only : (key : List ℕ) → MeaningValue
  inside : (range : List ℕ) → MeaningValue
  nothing : MeaningValue

-- The range `*` allows the version of the default tag too, also if it is a prerelease.
abbrev pub IsAdmitted : MeaningValue → Candidate → Type 0
IsAdmitted (only key) c = c.key.now ≡ key
IsAdmitted (inside range) c = ((bytes_eq range (codes "*") ≡ true) × (c.is_default ≡ true)) ⊎ Admits of_dependencies range c.version
IsAdmitted nothing c = ⊥

-- ---- texts

-- What a tag means: the version that it names or, if that was published too late, those at and below it.
pub data IsMeaningOfTag (packument : Data) (before : Option ℤ) (tag : List ℕ) : MeaningValue → Type 0 where
  named : (key : List ℕ) → tagged packument tag ≡ Some key → is_published before packument key ≡ true
      → IsMeaningOfTag packument before tag (only key)
  earlier : (key : List ℕ) → tagged packument tag ≡ Some key → is_published before packument key ≡ false
      → ¬ IsNoRange of_dependencies (up_to key) → IsMeaningOfTag packument before tag (inside (up_to key))
  odd : (key : List ℕ) → tagged packument tag ≡ Some key → is_published before packument key ≡ false
      → IsNoRange of_dependencies (up_to key) → IsMeaningOfTag packument before tag nothing
  no_tag : tagged packument tag ≡ None → IsMeaningOfTag packument before tag nothing

-- What a version, a range or a tag means. For a version its key has no build: for `=v1.2.3+a` it is `1.2.3`.
pub data IsMeaningByText (packument : Data) (before : Option ℤ) (text : List ℕ) : MeaningValue → Type 0 where
  of_version : (v : VersionValue) → IsInstalledVersion text v
      → IsMeaningByText packument before text (only (version_text (without_build v)))
  of_range : IsNoVersion text → ¬ IsNoRange of_dependencies text → IsMeaningByText packument before text (inside text)
  of_tag : (meaning : MeaningValue) → IsNoVersion text → IsNoRange of_dependencies text → is_tag text ≡ true
      → IsMeaningOfTag packument before text meaning → IsMeaningByText packument before text meaning
  refused : IsNoVersion text → IsNoRange of_dependencies text → is_tag text ≡ false
      → IsMeaningByText packument before text nothing

-- What any text means. A location and an alias, as `1.0.0 || a.tgz` and `npm:a@1`, allow nothing.
pub data IsMeaning (packument : Data) (before : Option ℤ) (text : List ℕ) : MeaningValue → Type 0 where
  by_text : (meaning : MeaningValue) → is_plain (filled text) ≡ true → IsMeaningByText packument before (filled text) meaning
      → IsMeaning packument before text meaning
  elsewhere : is_plain (filled text) ≡ false → IsMeaning packument before text nothing

-- ---- what a contract sees

-- the value has this meaning
abbrev pub Means : Meaning → MeaningValue → Type 0
Means (Meanings.Only key) value = value ≡ only (string_bytes key)
Means (Meanings.Inside range) value = (text : List ℕ) × (value ≡ inside text) × (bytes_eq text (codes "*") ≡ false)
    × ((v : VersionValue) → RangeAdmits range v ↔ Admits of_dependencies text v)
Means (Meanings.Any range) value = (text : List ℕ) × (value ≡ inside text) × (bytes_eq text (codes "*") ≡ true)
    × ((v : VersionValue) → RangeAdmits range v ↔ Admits of_dependencies text v)
Means Meanings.Nothing value = value ≡ nothing

abbrev pub IsRead : (packument : Data) → (before : Option ℤ) → (text : List ℕ) → Meaning → Type 0
IsRead packument before text meaning = (value : MeaningValue) × IsMeaning packument before text value × Means meaning value

abbrev pub IsReadByText : (packument : Data) → (before : Option ℤ) → (text : List ℕ) → Meaning → Type 0
IsReadByText packument before text meaning =
    (value : MeaningValue) × IsMeaningByText packument before text value × Means meaning value

abbrev pub IsReadByTag : (packument : Data) → (before : Option ℤ) → (tag : List ℕ) → Meaning → Type 0
IsReadByTag packument before tag meaning =
    (value : MeaningValue) × IsMeaningOfTag packument before tag value × Means meaning value
