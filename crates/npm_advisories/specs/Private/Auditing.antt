-- What is found of one installed package.
use Rattle.std.specs.Prelude.{◌≡◌, ◌≢◌, List, [], Option}
use Rattle.semver_cuts.specs.Ends.{Ends}
use Rattle.node_semver.specs.Versions.{VersionValue}
use Rattle.npm_advisories.specs.Advisories.{AboutValue, AdvisoryValue, about_name}
use Rattle.npm_advisories.specs.Audit.{FoundValue, InstalledValue, IsFound, found_value, installed_value, version_or_least}
use Rattle.npm_advisories.specs.Hits.{Known}
use Rattle.npm_advisories.specs.Offers.{IsLeastOrNone}
use Rattle.npm_advisories.specs.Private.Offering.{IsAdmittedBy, IsUnhitBy}
use Rattle.npm_advisories.specs.declared.found.Found.{Found}
use Rattle.npm_advisories.specs.declared.found.Installed.{Installed}
use Rattle.npm_advisories.specs.declared.severity.Severity.{Severity}

-- this is found of the package
pub record IsFoundOf (level : Severity) (values : List AdvisoryValue) (installed : Installed) (found : Found)
    : Type 0 where
  pub known : Known
  pub is : IsFound level (about_name installed.name.now values) (installed_value installed) known (found_value found)

-- The entry of a package that these advisories hit. Nothing is offered that is not above this version, or that one of the spans contains
pub record IsFoundWith (covered : List (Ends VersionValue)) (installed : InstalledValue) (v : Option VersionValue)
    (all : List AboutValue) (found : FoundValue) : Type 0 where
  pub folder : found.folder ≡ installed.folder
  pub name : found.name ≡ installed.name
  pub version : found.version ≡ installed.version
  pub hits : found.hits ≡ all
  pub some : all ≢ []
  pub least : IsLeastOrNone (IsUnhitBy covered (version_or_least v)) found.least
  pub admitted : IsLeastOrNone (IsAdmittedBy covered installed.asked (version_or_least v)) found.admitted
