-- The versions of a document that can be chosen, in the order in which they are preferred.
use Rattle.std.specs.Prelude.{◌≡◌, ◌↔◌, ◌&&◌, ℕ, List, [], ◌∷◌, Bool, IsTrue, true, false, bytes_eq, codes, not, option_map}
use Rattle.std.specs.List.Sorted.{IsPermutation, IsSorted, IsStable}
use Rattle.std.specs.Option.{option_map_or}
use Rattle.serde_json.specs.Data.{Data}
use Rattle.serde_json.specs.View.{view}
use Rattle.node_semver.specs.Versions.{VersionValue}
use Rattle.npm_texts.specs.InstalledVersions.{IsInstalledVersion}
use Rattle.npm_pick.specs.Packument.{Release, is_restricted, releases_in, tagged, versions_of}
use Rattle.npm_pick.specs.Rank.{Fits, engine_of, is_deprecated}
use Rattle.npm_pick.specs.Times.{is_published}
use Rattle.npm_resolve.specs.Preference.{order_of}
use Rattle.npm_resolve.specs.declared.candidates.candidate.Candidate.{Candidate}
use Rattle.npm_resolve.specs.declared.candidates.options.Options.{Options}

-- the tag names this version
abbrev pub is_tagged : (packument : Data) → (tag key : List ℕ) → Bool
is_tagged packument tag key = option_map_or (λ named. bytes_eq named key) (tagged packument tag) false

-- the version of Node fits the `engines` of the manifest, if it is known
abbrev pub FitsNode : Options → (manifest : Data) → Type 0
FitsNode options manifest = Fits (option_map (λ node. node.now) options.node) (engine_of manifest (codes "node"))

-- The key can be chosen: it is a version, it is in time, and no policy restricts it.
pub record IsEligible (packument : Data) (options : Options) (key : List ℕ) : Type 0 where
  pub version : VersionValue
  pub read : IsInstalledVersion key version
  pub published : is_published options.before packument key ≡ true
  pub allowed : is_restricted packument key ≡ false

-- the candidate of a member of `versions`
pub record IsCandidate (packument : Data) (options : Options) (release : Release) (c : Candidate) : Type 0 where
  pub key : c.key.now ≡ release.key
  pub manifest : view c.manifest.now ≡ release.manifest
  pub read : IsInstalledVersion release.key c.version
  pub published : is_published options.before packument release.key ≡ true
  pub allowed : is_restricted packument release.key ≡ false
  pub deprecated : c.is_deprecated ≡ is_deprecated release.manifest
  pub fitting : IsTrue c.fits ↔ FitsNode options release.manifest
  pub default : c.is_default ≡ ((not c.is_deprecated && c.fits) && is_tagged packument options.default_tag.now release.key)

-- the candidates of members of `versions`, one after the other
pub data AreListed (packument : Data) (options : Options) : List Release → List Candidate → Type 0 where
  none : AreListed packument options [] []
  listed : (release : Release) (c : Candidate) (releases : List Release) (candidates : List Candidate)
      → IsCandidate packument options release c → AreListed packument options releases candidates
      → AreListed packument options (release ∷ releases) (c ∷ candidates)
  passed : (release : Release) (releases : List Release) (candidates : List Candidate)
      → (IsEligible packument options release.key → ⊥) → AreListed packument options releases candidates
      → AreListed packument options (release ∷ releases) candidates

-- The candidates of a document: all of `versions` that can be chosen, what is preferred first, and what is preferred alike in
-- the order of the document
pub record AreCandidates (packument : Data) (options : Options) (candidates : List Candidate) : Type 0 where
  pub all : List Candidate
  pub listed : AreListed packument options (releases_in (versions_of packument)) all
  pub same : IsPermutation all candidates
  pub sorted : IsSorted (order_of options.is_lowest) candidates
  pub stable : IsStable (order_of options.is_lowest) all candidates
