-- What private functions compute of a pick.
use Rattle.std.specs.Prelude.{◌≡◌, ℕ, List, false, Option, Some, None, Result, Ok, Err}
use Rattle.std.specs.List.{AllByRecursion}
use Rattle.semver_cuts.specs.Ends.{Ends}
use Rattle.serde_json.specs.Data.{Data}
use Rattle.node_semver.specs.RangeAlgebra.{sets_of_answer}
use Rattle.node_semver.specs.Ranges.{RangeContains}
use Rattle.node_semver.specs.Versions.{VersionValue}
use Rattle.npm_texts.specs.InstalledVersions.{IsInstalledVersion}
use Rattle.npm_pick.specs.Packument.{Release, candidates_of}
use Rattle.npm_pick.specs.Pick.{HasNoDefault, HasNoneInTime, IsDefault, PickedValue, inside}
use Rattle.npm_pick.specs.Rank.{HasNone, IsBest, Rank}
use Rattle.npm_pick.specs.Times.{is_published}
use Rattle.npm_pick.specs.declared.error.PickError.{PickError}
use Rattle.npm_pick.specs.declared.error.PickError.TheVariants as Errors
use Rattle.npm_pick.specs.declared.options.Options.{Options}

-- the key is a version inside a set of the range
abbrev pub IsKeyAvoidedBy : Option (List (Ends VersionValue)) → (key : List ℕ) → Type 0
IsKeyAvoidedBy range key = (v : VersionValue) × IsInstalledVersion key v × RangeContains (sets_of_answer range) v

-- the version of the default tag is picked, or it is not to be
abbrev pub IsDefaultOrNone : (packument : Data) → Options → (range : List ℕ) → Option PickedValue → Type 0
IsDefaultOrNone packument options range None = HasNoDefault packument options range
IsDefaultOrNone packument options range (Some picked) =
    IsDefault packument options range picked.key picked.manifest
    × (picked.is_avoided ≡ false) × (picked.is_outside ≡ false) × (picked.is_major ≡ false)

-- none of these was published in time
abbrev pub AreLate : (packument : Data) → Options → List Release → Type 0
AreLate packument options releases =
    AllByRecursion (λ (release : Release). is_published options.before packument release.key ≡ false) releases

-- the result of a pick by rank
pub data IsRankedIn (packument : Data) (options : Options) (range : List ℕ)
    : Result PickedValue PickError → Type 0 where
  best : (best : Release) (rank : Rank)
      → IsBest packument options range (candidates_of options.include_staged packument) best rank
      → IsRankedIn packument options range (Ok (inside best.key best.manifest rank.is_avoided))
  late : HasNoneInTime packument options → IsRankedIn packument options range (Err Errors.NoVersions)
  none : ¬ HasNoneInTime packument options
      → HasNone packument options range (candidates_of options.include_staged packument)
      → IsRankedIn packument options range (Err Errors.NoneInRange)
