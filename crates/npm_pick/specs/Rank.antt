-- Which of the versions in a range is picked: npm's "npm-pick-manifest", "Algorithm".
use Rattle.std.specs.Prelude.{◌≡◌, ◌≢◌, ◌↔◌, ◌++◌, ◌∷◌, ◌&&◌, ℕ, List, Bool, true, not, Option, Some, None}
use Rattle.std.specs.Prelude.{IfSome, IsTrue, codes, option_and_then, option_map}
use Rattle.std.specs.List.{AllByRecursion}
use Rattle.std.specs.Ordering.{bool_cmp, on, then_cmp}
use Rattle.std.specs.declared.cmp.Ordering.{Ordering}
use Rattle.std.specs.declared.cmp.Ordering.TheVariants.{Less}
use Rattle.serde_json.specs.Data.{Data}
use Rattle.serde_json.specs.Find.{as_str, get}
use Rattle.npm_semver.specs.NpmRanges.{NpmOptions}
use Rattle.node_semver.specs.Versions.{VersionValue, version_cmp}
use Rattle.npm_texts.specs.Truth.{has_true, is_true}
use Rattle.npm_texts.specs.InstalledVersions.{IsInstalledVersion}
use Rattle.npm_texts.specs.Admission.{Admits, of_dependencies, of_engines}
use Rattle.npm_pick.specs.Packument.{Release, is_restricted, is_staged}
use Rattle.npm_pick.specs.Times.{is_published}
use Rattle.npm_pick.specs.declared.options.Options.{Options}

-- ---- what counts for a version

-- npm reads the range to avoid in loose form, with prereleases included
abbrev pub of_avoided : NpmOptions
of_avoided = record { loose = true; include_prerelease = true }

-- the version is in the range to avoid
abbrev pub IsAvoided : Option (List ℕ) → VersionValue → Type 0
IsAvoided None v = ⊥
IsAvoided (Some avoided) v = Admits of_avoided avoided v

-- a range of `engines` admits the version of the engine; what JavaScript counts as false admits each
abbrev pub IsEngineFor : VersionValue → Data → Type 0
IsEngineFor v asked = is_true asked ≡ true → (text : List ℕ) × (as_str asked ≡ Some text) × Admits of_engines text v

-- the version of the engine is unknown, or there is no range, or the range admits it
abbrev pub Fits : Option VersionValue → Option Data → Type 0
Fits None asked = Unit {0}
Fits (Some v) asked = IfSome asked (IsEngineFor v)

-- a range of `engines`: `{"engines": {"node": ">=18"}}`
abbrev pub engine_of : (manifest : Data) → (engine : List ℕ) → Option Data
engine_of manifest engine = option_and_then (get engine) (get (codes "engines") manifest)

-- the versions of Node and of npm fit the manifest
abbrev pub FitsEngines : Options → (manifest : Data) → Type 0
FitsEngines options manifest = Fits options.node (engine_of manifest (codes "node"))
    × Fits options.npm (engine_of manifest (codes "npm"))

-- the manifest says that the version is deprecated
abbrev pub is_deprecated : (manifest : Data) → Bool
is_deprecated manifest = has_true (codes "deprecated") manifest

-- ---- ranks

-- the rank of a version
pub record Rank : Type 0 where
  pub is_avoided : Bool
  pub is_restricted : Bool
  pub is_staged : Bool
  pub is_deprecated : Bool
  pub fits : Bool
  pub version : VersionValue

-- both not deprecated and fitting
abbrev pub is_sound : Rank → Bool
is_sound rank = not rank.is_deprecated && rank.fits

-- The order of ranks. What comes first counts most: not to be avoided, not to be restricted, not to be staged, not to be
-- deprecated and to fit, to fit, not to be deprecated, and the order of versions.
abbrev pub rank_cmp : Rank → Rank → Ordering
rank_cmp = then_cmp (on (λ (r : Rank). not r.is_avoided) bool_cmp)
    (then_cmp (on (λ (r : Rank). not r.is_restricted) bool_cmp) (then_cmp (on (λ (r : Rank). not r.is_staged) bool_cmp)
    (then_cmp (on is_sound bool_cmp) (then_cmp (on (λ (r : Rank). r.fits) bool_cmp)
    (then_cmp (on (λ (r : Rank). not r.is_deprecated) bool_cmp) (on (λ (r : Rank). r.version) version_cmp))))))

-- A version that can be picked for a range, and its rank: it is in the range and in time
pub record IsRankOf (packument : Data) (options : Options) (range : List ℕ) (release : Release) (rank : Rank) : Type 0
  where
    pub read : IsInstalledVersion release.key rank.version
    pub admitted : Admits of_dependencies range rank.version
    pub published : is_published options.before packument release.key ≡ true
    pub avoided : IsTrue rank.is_avoided ↔ IsAvoided (option_map (λ text. text.now) options.avoid) rank.version
    pub restricted : rank.is_restricted ≡ is_restricted packument release.key
    pub staged : rank.is_staged ≡ is_staged options.include_staged packument release.key
    pub deprecated : rank.is_deprecated ≡ is_deprecated release.manifest
    pub fitting : IsTrue rank.fits ↔ FitsEngines options release.manifest

-- the first of these releases with the highest rank
pub record IsBest (packument : Data) (options : Options) (range : List ℕ) (releases : List Release) (best : Release)
    (rank : Rank)
    : Type 0 where
  pub before : List Release
  pub after : List Release
  pub parts : releases ≡ before ++ best ∷ after
  pub ranked : IsRankOf packument options range best rank
  pub above_earlier : AllByRecursion (λ (release : Release). (other : Rank)
      → IsRankOf packument options range release other → rank_cmp other rank ≡ Less) before
  pub not_below_later : AllByRecursion (λ (release : Release). (other : Rank)
      → IsRankOf packument options range release other → rank_cmp rank other ≢ Less) after

-- none of these releases can be picked
abbrev pub HasNone : (packument : Data) → Options → (range : List ℕ) → List Release → Type 0
HasNone packument options range releases = AllByRecursion (λ (release : Release). (rank : Rank)
    → ¬ IsRankOf packument options range release rank) releases
