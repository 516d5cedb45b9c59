-- What private functions say of the keys that are kept.
use Rattle.std.specs.Prelude.{◌≡◌, ◌↔◌, ◌⊎◌, ◌++◌, ℕ, List, [], ◌∷◌, Bool, true, false, Option, Some, None, Ok, Err, map}
use Rattle.std.specs.List.{All, Contains}
use Rattle.std.specs.Cmp.{IsTotalOrder, on_total, then_total}
use Rattle.std.specs.Cmp.Lexicographic.{nat_list_cmp_total, options_total}
use Rattle.std.specs.declared.cmp.Ordering.{Ordering}
use Rattle.semver_cuts.specs.Ends.{Ends}
use Rattle.semver_cuts.specs.SpanLists.{AnyByRecursion}
use Rattle.semver_texts.specs.Lemmas.Public.{version_total}
use Rattle.serde_json.specs.Data.{Data, Members}
use Rattle.node_semver.specs.Ranges.{RangeAdmits}
use Rattle.node_semver.specs.Versions.{VersionValue}
use Rattle.npm_texts.specs.InstalledVersions.{IsInstalledVersion}
use Rattle.npm_texts.specs.RangeText.{filled}
use Rattle.npm_pick.specs.Kept.{ArePicked, IsAdmitted, IsReadAs, IsThere, KeyValue, key_cmp}
use Rattle.npm_pick.specs.Packument.{Release, is_restricted, releases_among}
use Rattle.npm_pick.specs.Pick.{IsPicked, PickedValue}
use Rattle.npm_pick.specs.Times.{is_published}
use Rattle.npm_pick.specs.declared.error.PickError.{PickError}
use Rattle.npm_pick.specs.declared.key.Key.{Key}
use Rattle.npm_pick.specs.declared.options.Options.{Options}

-- ---- keys

-- what a key holds
abbrev pub key_value : Key → KeyValue
key_value key = record { version = key.version; text = key.text.now }

abbrev pub IsKeyRead : KeyValue → Type 0
IsKeyRead key = IsReadAs key.text key.version

-- the texts of keys
abbrev pub texts_of : List KeyValue → List (List ℕ)
texts_of keys = map (λ (k : KeyValue). k.text) keys

abbrev pub key_order : Key → Key → Ordering
key_order a b = key_cmp (key_value a) (key_value b)

pub key_cmp_total : IsTotalOrder key_cmp
key_cmp_total = then_total (on_total (λ (k : KeyValue). k.version) (options_total version_total))
    (on_total (λ (k : KeyValue). k.text) nat_list_cmp_total)

pub key_total : IsTotalOrder key_order
key_total = on_total key_value key_cmp_total

-- ---- ranges

-- the version satisfies a range that was read, if there is one
abbrev pub IsSatisfied : Option (List (Ends VersionValue)) → VersionValue → Type 0
IsSatisfied None v = ⊥
IsSatisfied (Some range) v = RangeAdmits range v

-- the version satisfies one of several ranges, of which some may not have been read
abbrev pub IsInOne : List (Option (List (Ends VersionValue))) → VersionValue → Type 0
IsInOne ranges v = AnyByRecursion (λ range. IsSatisfied range v) ranges

-- the key is a version of one of the ranges, it is in time, and no policy restricts it
pub record IsWithin (packument : Data) (options : Options) (ranges : List (Option (List (Ends VersionValue))))
    (key : List ℕ)
    : Type 0 where
  pub version : VersionValue
  pub read : IsInstalledVersion key version
  pub admitted : IsInOne ranges version
  pub published : is_published options.before packument key ≡ true
  pub allowed : is_restricted packument key ≡ false

-- ---- keys of releases

abbrev pub HasKey : List Release → (key : List ℕ) → Type 0
HasKey releases key = AnyByRecursion (λ (release : Release). release.key ≡ key) releases

-- the keys of these releases that lie within the ranges were added
pub record AreAdded (packument : Data) (options : Options) (ranges : List (Option (List (Ends VersionValue))))
    (releases : List Release) (old new : List KeyValue)
    : Type 0 where
  pub exact : (key : List ℕ) → Contains (texts_of new) key
      ↔ (Contains (texts_of old) key ⊎ (HasKey releases key × IsWithin packument options ranges key))
  pub read : All IsKeyRead old → All IsKeyRead new

-- those of the releases that are done were added; the others are left
pub record AreAddedSoFar (packument : Data) (options : Options) (ranges : List (Option (List (Ends VersionValue))))
    (all left : Members) (old new : List KeyValue)
    : Type 0 where
  pub done : List Release
  pub parts : releases_among all ≡ done ++ releases_among left
  pub added : AreAdded packument options ranges done old new

-- the key that is picked for a text was added, or nothing if none is picked
pub data IsPickAdded (packument : Data) (options : Options) (text : List ℕ) (old new : List KeyValue) : Type 0 where
  added : (picked : PickedValue) (key : KeyValue) → IsPicked packument options (filled text) (Ok picked)
      → key.text ≡ picked.key → IsKeyRead key → new ≡ old ++ key ∷ [] → IsPickAdded packument options text old new
  kept : (error : PickError) → IsPicked packument options (filled text) (Err error) → new ≡ old
      → IsPickAdded packument options text old new

-- the keys of the picks, and maybe those that are admitted
pub record AreGathered (packument : Data) (options : Options) (all : Bool) (texts : List (List ℕ))
    (keys : List KeyValue)
    : Type 0 where
  pub picks : List (List ℕ)
  pub picked : ArePicked packument options texts picks
  pub exact : (key : List ℕ) → Contains (texts_of keys) key
      ↔ (Contains picks key ⊎ (all ≡ true × IsThere packument options key × IsAdmitted packument options texts key))
  pub read : All IsKeyRead keys
