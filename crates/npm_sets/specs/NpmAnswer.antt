-- The result of reading a range text as npm reads it.
use Rattle.std.specs.Prelude.{◌≡◌, ◌↔◌, ℕ, List, Result, IfErr, IfOk, OnOk}
use Rattle.semver_sets.specs.RangeSets.{IsRangeValue, sets_seen}
use Rattle.semver_sets.specs.declared.read.Unread.{Unread}
use Rattle.semver_sets.specs.declared.read.Unread.TheVariants.{Refused}
use Rattle.semver_sets.specs.declared.set_list.Sets.{Sets}
use Rattle.semver_texts.specs.Version.{VersionValue}
use Rattle.npm_sets.specs.NpmMeaning.{AreNpmSets, IsNpmRefused, NpmSetsAdmit, NpmTextAdmits}
use Rattle.npm_sets.specs.declared.options.NpmOptions.{NpmOptions}

-- the text is refused, or its sets admit the versions that it admits; or an allocation failed
pub record IsNpmAnswer (options : NpmOptions) (text : List ℕ) (answer : Result Sets Unread) : Type 0 where
  pub sets : IfOk answer (λ sets. AreNpmSets options text (sets_seen sets))
  pub means : IfOk answer (λ sets. (v : VersionValue)
      → NpmSetsAdmit options.include_prerelease (sets_seen sets) v ↔ NpmTextAdmits options text v)
  pub holds : IfOk answer (λ sets. IsRangeValue (sets_seen sets))
  pub refused : IfErr answer (λ unread. unread ≡ Refused → IsNpmRefused options text)
  pub accepted : OnOk answer (¬ IsNpmRefused options text)
