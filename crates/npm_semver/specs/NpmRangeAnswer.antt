-- The result of `npm_semver::parse_range` for a text, by the facts that its contract states.
use Rattle.std.specs.Prelude.{◌⊎◌, ◌↔◌, ℕ, List, Result, IfErr, IfOk, OnOk}
use Rattle.semver_cuts.specs.Ends.{Ends}
use Rattle.semver_sets.specs.RangeSets.{IsRangeValue}
use Rattle.semver_versions.specs.Error.{IsOutOfMemory, IsRefusalAt, no_valid_ranges}
use Rattle.semver_texts.specs.Version.{VersionValue}
use Rattle.semver_versions.specs.declared.error.SemverError.{SemverError}
use Rattle.npm_sets.specs.NpmMeaning.{AreNpmSets, IsNpmRefused, NpmSetsAdmit, NpmTextAdmits}
use Rattle.npm_sets.specs.RefusedPlace.{IsRefusalOffset}
use Rattle.npm_sets.specs.Spaces.{with_plain_spaces}
use Rattle.npm_sets.specs.declared.options.NpmOptions.{NpmOptions}

-- the error for a text that is refused: in strict form at its first word that is no comparator, and in loose form at 0
pub record IsNpmRefusal (options : NpmOptions) (text : List ℕ) (e : SemverError) : Type 0 where
  pub offset : ℕ
  pub place : IsRefusalOffset options text offset
  pub told : IsRefusalAt text no_valid_ranges offset e

-- White space outside ASCII counts as a space. Unless it is out of memory, the text is refused exactly where npm's
-- reading refuses it; otherwise a version satisfies the range, or with prereleases included lies inside one of its
-- sets, exactly where the text admits it
pub record IsNpmRangeAnswer (options : NpmOptions) (text : List ℕ)
    (answer : Result (List (Ends VersionValue)) SemverError) : Type 0 where
  pub refused : IfErr answer (λ e. IsOutOfMemory e
      ⊎ (IsNpmRefusal options text e × IsNpmRefused options (with_plain_spaces text)))
  pub accepted : OnOk answer (¬ IsNpmRefused options (with_plain_spaces text))
  pub means : IfOk answer (λ r. (v : VersionValue)
      → NpmSetsAdmit options.include_prerelease r v ↔ NpmTextAdmits options (with_plain_spaces text) v)
  -- one set for each alternative that gives a set, and the properties of every range
  pub sets : IfOk answer (AreNpmSets options (with_plain_spaces text))
  pub holds : IfOk answer IsRangeValue
