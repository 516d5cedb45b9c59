-- What the versions of a document are ranked by, and the best of them, as values.
use Rattle.std.specs.Prelude.{◌≡◌, ◌↔◌, ℕ, List, Option, Some, None, option_map}
use Rattle.semver_cuts.specs.Ends.{Ends}
use Rattle.serde_json.specs.Data.{Data}
use Rattle.serde_json.specs.View.{members_view, view}
use Rattle.node_semver.specs.RangeAlgebra.{sets_of_answer}
use Rattle.node_semver.specs.Ranges.{RangeAdmits, RangeContains}
use Rattle.node_semver.specs.Versions.{VersionValue}
use Rattle.npm_texts.specs.Admission.{Admits, of_dependencies}
use Rattle.npm_pick.specs.Packument.{Release, restricted_of, staged_of}
use Rattle.npm_pick.specs.Rank as Ranks
use Rattle.npm_pick.specs.Rank.{HasNone, IsAvoided, IsBest}
use Rattle.npm_pick.specs.declared.rank.asked.Asked.{Asked}
use Rattle.npm_pick.specs.declared.rank.best.Found.{Found}
use Rattle.npm_pick.specs.declared.options.Options.{Options}
use Rattle.npm_pick.specs.declared.rank.Rank.{Rank}

-- the rank that a value holds
abbrev pub rank_value : Rank → Ranks.Rank
rank_value rank = record {
  is_avoided = rank.is_avoided;
  is_restricted = rank.is_restricted;
  is_staged = rank.is_staged;
  is_deprecated = rank.is_deprecated;
  fits = rank.fits;
  version = rank.version;
}

-- the range to avoid was read
abbrev pub IsAvoidRead : Option (List ℕ) → Option (List (Ends VersionValue)) → Type 0
IsAvoidRead text range = (v : VersionValue) → RangeContains (sets_of_answer range) v ↔ IsAvoided text v

-- the ranges are those of their texts, and the lists are those of the document
pub record IsRead (asked : Asked) : Type 0 where
  pub wanted : (v : VersionValue) → RangeAdmits asked.wanted v ↔ Admits of_dependencies asked.range.now v
  pub avoid : IsAvoidRead (option_map (λ text. text.now) asked.options.now.avoid) asked.avoid
  pub staged : option_map (λ members. members_view members.now.entries) asked.staged
      ≡ staged_of asked.options.now.include_staged (view asked.packument.now)
  pub restricted : option_map (λ members. members_view members.now.entries) asked.restricted
      ≡ restricted_of (view asked.packument.now)

-- the release that was found
abbrev pub release_of : Found → Release
release_of found = record { key = found.key.now; manifest = view found.manifest.now }

-- the best of these releases was found, or there is none
abbrev pub IsBestOrNone : (packument : Data) → Options → (range : List ℕ) → List Release → Option Found → Type 0
IsBestOrNone packument options range releases None = HasNone packument options range releases
IsBestOrNone packument options range releases (Some found) =
    IsBest packument options range releases (release_of found) (rank_value found.rank)
