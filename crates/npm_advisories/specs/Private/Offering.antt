-- The versions that are offered above an installed one, by the spans of the releases that are not.
use Rattle.std.specs.Prelude.{ℕ, List}
use Rattle.std.specs.List.{AllByRecursion}
use Rattle.semver_cuts.specs.Ends.{Ends}
use Rattle.node_semver.specs.Ranges.{RangeContains}
use Rattle.node_semver.specs.Versions.{IsBelow, IsPrerelease, VersionValue}
use Rattle.npm_advisories.specs.Offers.{IsAskedFor}

-- a release above the installed version that none of the spans contains
pub record IsUnhitBy (covered : List (Ends VersionValue)) (installed v : VersionValue) : Type 0 where
  pub release : ¬ IsPrerelease v
  pub above : IsBelow installed v
  pub unhit : ¬ RangeContains covered v

-- such a release that each of the range texts admits
pub record IsAdmittedBy (covered : List (Ends VersionValue)) (asked : List (List ℕ)) (installed v : VersionValue)
    : Type 0 where
  pub unhit : IsUnhitBy covered installed v
  pub admitted : AllByRecursion (λ text. IsAskedFor text v) asked
