-- What an audit finds: npm's "npm audit".
use Rattle.std.specs.Prelude.{◌≡◌, ◌≢◌, ℕ, List, [], ◌∷◌, Option, Some, None, map, option_map}
use Rattle.node_semver.specs.Versions.{VersionValue, least_of}
use Rattle.npm_advisories.specs.Advisories.{AboutValue, AdvisoryValue, about_name, about_value}
use Rattle.npm_advisories.specs.ReadVersions.{IsReadAs}
use Rattle.npm_advisories.specs.Hits.{AreHits, Known, said, unsaid}
use Rattle.npm_advisories.specs.Offers.{IsAdmitted, IsLeastOrNone, IsUnhit}
use Rattle.npm_advisories.specs.declared.found.Found.{Found}
use Rattle.npm_advisories.specs.declared.found.Installed.{Installed}
use Rattle.npm_advisories.specs.declared.severity.Severity.{Severity}

-- an installed package: the text of its version, if it has one, and the range texts of its dependents
pub record InstalledValue : Type 0 where
  pub folder : List ℕ
  pub name : List ℕ
  pub version : Option (List ℕ)
  pub asked : List (List ℕ)

-- an installed package that is hit: the advisories that hit it, and the versions that are offered
pub record FoundValue : Type 0 where
  pub folder : List ℕ
  pub name : List ℕ
  pub version : Option (List ℕ)
  pub hits : List AboutValue
  pub least : Option VersionValue
  pub admitted : Option VersionValue

-- the names of installed packages
abbrev pub names_of : List InstalledValue → List (List ℕ)
names_of installed = map (λ one. one.name) installed

-- both as a contract sees them
abbrev pub installed_value : Installed → InstalledValue
installed_value installed = record {
  folder = installed.folder.now;
  name = installed.name.now;
  version = option_map (λ text. text.now) installed.version;
  asked = map (λ text. text.now) installed.asked.items;
}

abbrev pub found_value : Found → FoundValue
found_value found = record {
  folder = found.folder.now;
  name = found.name.now;
  version = option_map (λ text. text.now) found.version;
  hits = map about_value found.hits.items;
  least = found.least;
  admitted = found.admitted;
}

-- ---- one package

-- what is known of the version with this text, or of none
abbrev pub IsKnownAs : (text : Option (List ℕ)) → Known → Type 0
IsKnownAs (Some text) (said v) = IsReadAs text v
IsKnownAs (Some text) unsaid = ⊥
IsKnownAs None (said v) = ⊥
IsKnownAs None unsaid = Unit {0}

abbrev pub known_version : Known → Option VersionValue
known_version (said v) = v
known_version unsaid = None

-- Versions above this one are offered: above the installed version, and above 0.0.0-0, so each release, if its text is no
-- version, or if it has none
abbrev pub version_or_least : Option VersionValue → VersionValue
version_or_least (Some v) = v
version_or_least None = least_of 0 0 0

-- The entry for a package of which this is known, from the advisories about its name. Nothing is offered in place of one without a
-- version, since no release is left by what hits it
pub record IsFound (level : Severity) (advisories : List AdvisoryValue) (installed : InstalledValue)
    (known : Known) (found : FoundValue) : Type 0 where
  pub folder : found.folder ≡ installed.folder
  pub name : found.name ≡ installed.name
  pub version : found.version ≡ installed.version
  pub read : IsKnownAs installed.version known
  pub hits : AreHits level known advisories found.hits
  pub some : found.hits ≢ []
  pub least : IsLeastOrNone (IsUnhit advisories (version_or_least (known_version known))) found.least
  pub admitted : IsLeastOrNone (IsAdmitted advisories installed.asked (version_or_least (known_version known)))
      found.admitted

-- no advisory about its name hits the package
abbrev pub IsSpared : Severity → List AdvisoryValue → InstalledValue → Type 0
IsSpared level advisories installed =
    (known : Known) → IsKnownAs installed.version known → AreHits level known advisories []

-- ---- all packages

-- the installed packages that are hit, in their order
pub data IsAudit (level : Severity) (advisories : List AdvisoryValue)
    : List InstalledValue → List FoundValue → Type 0 where
  none : IsAudit level advisories [] []
  spared : (one : InstalledValue) (others : List InstalledValue) (found : List FoundValue)
      → IsSpared level (about_name one.name advisories) one → IsAudit level advisories others found
      → IsAudit level advisories (one ∷ others) found
  hit : (one : InstalledValue) (known : Known) (here : FoundValue) (others : List InstalledValue)
      (found : List FoundValue) → IsFound level (about_name one.name advisories) one known here
      → IsAudit level advisories others found → IsAudit level advisories (one ∷ others) (here ∷ found)
