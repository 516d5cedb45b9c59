-- Which versions of a document a mirror keeps.
use Rattle.std.specs.Prelude.{◌≡◌, ◌↔◌, ◌⊎◌, ℕ, List, [], ◌∷◌, Bool, true, false, Option, Some, None, Ok, Err, map}
use Rattle.std.specs.List.{All, Contains}
use Rattle.std.specs.List.Sorted.{IsStrictlySortedBy}
use Rattle.std.specs.Cmp.Lexicographic.{slice_cmp}
use Rattle.std.specs.Option.{option_cmp}
use Rattle.std.specs.Ordering.{nat_cmp, on, then_cmp}
use Rattle.std.specs.declared.cmp.Ordering.{Ordering}
use Rattle.semver_cuts.specs.SpanLists.{AnyByRecursion}
use Rattle.serde_json.specs.Data.{Data}
use Rattle.node_semver.specs.Versions.{VersionValue, version_cmp}
use Rattle.npm_texts.specs.InstalledVersions.{IsInstalledVersion}
use Rattle.npm_texts.specs.RangeText.{filled, is_plain}
use Rattle.npm_texts.specs.Admission.{Admits, of_dependencies}
use Rattle.npm_pick.specs.Packument.{Release, candidates_of, is_restricted}
use Rattle.npm_pick.specs.Pick.{IsPicked, PickedValue}
use Rattle.npm_pick.specs.Times.{is_published}
use Rattle.npm_pick.specs.Wanted.{IsNoVersion}
use Rattle.npm_pick.specs.declared.error.PickError.{PickError}
use Rattle.npm_pick.specs.declared.options.Options.{Options}

-- ---- the keys that are picked or admitted

-- the keys that are picked for the texts, one after the other; a text for which none is picked adds none
pub data ArePicked (packument : Data) (options : Options) : (texts keys : List (List ℕ)) → Type 0 where
  none : ArePicked packument options [] []
  picked : (text : List ℕ) (picked : PickedValue) (texts keys : List (List ℕ))
      → IsPicked packument options (filled text) (Ok picked) → ArePicked packument options texts keys
      → ArePicked packument options (text ∷ texts) (picked.key ∷ keys)
  passed : (text : List ℕ) (error : PickError) (texts keys : List (List ℕ))
      → IsPicked packument options (filled text) (Err error) → ArePicked packument options texts keys
      → ArePicked packument options (text ∷ texts) keys

-- the text is a range that admits the version, and no location and no alias
abbrev pub IsInText : (text : List ℕ) → VersionValue → Type 0
IsInText text v = (is_plain text ≡ true) × Admits of_dependencies text v

-- the version is in the range of one of the texts; a text that is no range admits none
abbrev pub IsInSome : (texts : List (List ℕ)) → VersionValue → Type 0
IsInSome texts v = AnyByRecursion (λ (text : List ℕ). IsInText (filled text) v) texts

-- the key is a version of one of the ranges, it is in time, and no policy restricts it
pub record IsAdmitted (packument : Data) (options : Options) (texts : List (List ℕ)) (key : List ℕ) : Type 0 where
  pub version : VersionValue
  pub read : IsInstalledVersion key version
  pub admitted : IsInSome texts version
  pub published : is_published options.before packument key ≡ true
  pub allowed : is_restricted packument key ≡ false

-- the document has this key
abbrev pub IsThere : (packument : Data) → Options → (key : List ℕ) → Type 0
IsThere packument options key = AnyByRecursion (λ (release : Release). release.key ≡ key)
    (candidates_of options.include_staged packument)

-- ---- the order of keys

-- a key, and the version that it is read as, if it is one
pub record KeyValue : Type 0 where
  pub version : Option VersionValue
  pub text : List ℕ

abbrev pub IsReadAs : (text : List ℕ) → Option VersionValue → Type 0
IsReadAs text None = IsNoVersion text
IsReadAs text (Some v) = IsInstalledVersion text v

-- The order of keys is that of their versions, and for equal versions that of their bytes. A key that is no version comes
-- before each that is one.
abbrev pub key_cmp : KeyValue → KeyValue → Ordering
key_cmp = then_cmp (on (λ (k : KeyValue). k.version) (option_cmp version_cmp))
    (on (λ (k : KeyValue). k.text) (slice_cmp nat_cmp))

-- the keys are in order, and no key is there twice
pub record IsInOrder (keys : List (List ℕ)) : Type 0 where
  pub listed : List KeyValue
  pub texts : map (λ (k : KeyValue). k.text) listed ≡ keys
  pub read : All (λ (k : KeyValue). IsReadAs k.text k.version) listed
  pub ordered : IsStrictlySortedBy key_cmp listed

-- ---- the keys that are kept

-- The keys that a mirror keeps for these texts: each that is picked for one of them, and, if all are kept, each key of the
-- document that is admitted. There are no others.
pub record IsKept (packument : Data) (options : Options) (all : Bool) (texts keys : List (List ℕ)) : Type 0 where
  pub picks : List (List ℕ)
  pub picked : ArePicked packument options texts picks
  pub exact : (key : List ℕ) → Contains keys key
      ↔ (Contains picks key ⊎ (all ≡ true × IsThere packument options key × IsAdmitted packument options texts key))
  pub ordered : IsInOrder keys
