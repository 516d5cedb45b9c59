-- Range texts that are a full version, with `^`, `~` or nothing before it: most are. Such a text has one set.
use Rattle.std.specs.Prelude.{◌≡◌, ◌↔◌, ℕ, List, [], ◌∷◌}
use Rattle.semver_texts.specs.Version.{VersionValue}
use Rattle.semver_sets.specs.FullTexts.{AreInLimit, full_set}
use Rattle.semver_sets.specs.RangeSets.{IsRangeSet}
use Rattle.semver_sets.specs.declared.read.full.Form.{Form}
use Rattle.npm_sets.specs.NpmMeaning.{AreNpmSets, IsNpmRefused, NpmSetsAdmit, NpmTextAdmits}
use Rattle.npm_sets.specs.Spaces.{with_plain_spaces}
use Rattle.npm_sets.specs.declared.options.NpmOptions.{NpmOptions}

-- the text has this set alone, which admits what the text admits, and no white space outside ASCII
pub record IsNpmFullText (options : NpmOptions) (text : List ℕ) (form : Form) (major minor patch : ℕ) : Type 0 where
  pub sets : AreNpmSets options text (full_set form major minor patch ∷ [])
  pub means : (v : VersionValue)
      → NpmSetsAdmit options.include_prerelease (full_set form major minor patch ∷ []) v ↔ NpmTextAdmits options text v
  pub set : IsRangeSet (full_set form major minor patch)
  pub limit : AreInLimit major minor patch
  pub accepted : ¬ IsNpmRefused options text
  pub plain : with_plain_spaces text ≡ text
