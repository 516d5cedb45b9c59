-- Range texts that are a full version, with `^`, `~` or nothing before it: nine of ten are. Such a text has one set.
use Rattle.std.specs.Prelude.{ℕ, ◌+◌, ◌≤◌, List, [], ◌∷◌, Option, Some}
use Rattle.semver_cuts.specs.Ends.{Ends}
use Rattle.semver_texts.specs.Version.{VersionValue, least_of, release}
use Rattle.semver_texts.specs.declared.TheConstants.{MAX_SAFE_INTEGER}
use Rattle.semver_sets.specs.CaretRanges.{caret_row}
use Rattle.semver_sets.specs.Comparator.{Comparator, exactly, from_up_to}
use Rattle.semver_sets.specs.Merging.{AreSetsOfText}
use Rattle.semver_sets.specs.Operators.{plain_row}
use Rattle.semver_sets.specs.RangeSets.{IsRangeSet}
use Rattle.semver_sets.specs.TildeRanges.{tilde_row}
use Rattle.semver_sets.specs.declared.read.full.Form.{Form}
use Rattle.semver_sets.specs.declared.read.full.Form.TheVariants.{Exactly, ToNextMajor, ToNextMinor, ToNextPatch}
use Rattle.semver_sets.specs.declared.read.full.FullLead.{FullLead}
use Rattle.semver_sets.specs.declared.read.full.FullLead.TheVariants.{Caret, Nothing, Tilde}

-- the comparator that the lead's row gives for a full version without extras
abbrev pub full_row : FullLead → ℕ → ℕ → ℕ → Option Comparator
full_row Caret major minor patch = caret_row (Some major) (Some minor) (Some patch) (release major minor patch)
full_row Tilde major minor patch = tilde_row (Some major) (Some minor) (Some patch) (release major minor patch)
full_row Nothing major minor patch = plain_row (Some major) (Some minor) (Some patch) (release major minor patch)

-- the set of a form: that of `1.2.3`, and those that end before the next major, minor or patch
abbrev pub full_set : Form → ℕ → ℕ → ℕ → Ends VersionValue
full_set Exactly major minor patch = exactly (release major minor patch)
full_set ToNextMajor major minor patch = from_up_to (release major minor patch) (least_of (major + 1) 0 0)
full_set ToNextMinor major minor patch = from_up_to (release major minor patch) (least_of major (minor + 1) 0)
full_set ToNextPatch major minor patch = from_up_to (release major minor patch) (least_of major minor (patch + 1))

-- no number is above the limit
pub record AreInLimit (major minor patch : ℕ) : Type 0 where
  pub major_limit : major ≤ MAX_SAFE_INTEGER
  pub minor_limit : minor ≤ MAX_SAFE_INTEGER
  pub patch_limit : patch ≤ MAX_SAFE_INTEGER

-- the text writes this set alone, and no number is above the limit
pub record IsFullText (text : List ℕ) (form : Form) (major minor patch : ℕ) : Type 0 where
  pub sets : AreSetsOfText text (full_set form major minor patch ∷ [])
  pub set : IsRangeSet (full_set form major minor patch)
  pub limit : AreInLimit major minor patch
