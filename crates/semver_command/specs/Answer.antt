-- What is decided for a request without an increment.
use Rattle.std.specs.Prelude.{ℕ, List, Option}
use Rattle.node_semver.specs.Versions.{VersionValue}
use Rattle.semver_command.specs.Chosen.{AreChosen}
use Rattle.semver_command.specs.Input.{AreAllTexts}
use Rattle.semver_command.specs.Kept.{IsListed}
use Rattle.semver_command.specs.Ranges.{IsAdmittedByAll, npm_options}
use Rattle.semver_command.specs.declared.asked.Options.{Options}
use Rattle.semver_command.specs.declared.kept.Kept.{Kept}

-- Those versions of the texts that satisfy all ranges are listed.
pub record IsAnswer (options : Options) (ranges : List (Option (List ℕ))) (words : List (List ℕ)) (kept : Kept)
    : Type 0 where
  pub texts : List (List ℕ)
  pub placed : AreAllTexts words texts
  pub versions : List VersionValue
  pub chosen : AreChosen options (IsAdmittedByAll (npm_options options) ranges) texts versions
  pub listed : IsListed options versions kept
