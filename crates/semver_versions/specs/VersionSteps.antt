-- The values that the fields of a version can hold, and the next version after each.
use Rattle.std.specs.Prelude.{◌≡◌, ◌+◌, ◌^◌, ◌<◌, List, [], ◌∷◌, ◌++◌}
use Rattle.std.specs.List.{AllByRecursion}
use Rattle.std.specs.Str.{IsUtf8}
use Rattle.semver_texts.specs.IdentifierValue.{IdentifierValue, alphanumeric, numeric}
use Rattle.semver_texts.specs.Version.{VersionValue, least_of, release}

-- a number of 64 bits, or any text
abbrev pub IsIdentifier : IdentifierValue → Type 0
IsIdentifier (numeric n) = n < 2 ^ 64
IsIdentifier (alphanumeric text) = IsUtf8 text

-- the public fields of a version hold numbers of 64 bits and any identifiers
pub record IsVersion (v : VersionValue) : Type 0 where
  pub major : v.major < 2 ^ 64
  pub minor : v.minor < 2 ^ 64
  pub patch : v.patch < 2 ^ 64
  pub pre_release : AllByRecursion IsIdentifier v.pre_release
  pub build : AllByRecursion IsIdentifier v.build

-- with one more identifier, the number 0, and no build: `1.2.3-rc.0` for `1.2.3-rc`
abbrev pub with_zero : VersionValue → VersionValue
with_zero v = record (release v.major v.minor v.patch) { pre_release = v.pre_release ++ numeric 0 ∷ [] }

-- the next version after one with these prerelease identifiers
abbrev pub next_by : VersionValue → List IdentifierValue → VersionValue
next_by v [] = least_of v.major v.minor (v.patch + 1)
next_by v (identifier ∷ identifiers) = with_zero v

-- the next version: after a prerelease it has one more identifier 0, after a release it is the least version with the
-- next patch, `1.2.4-0` after `1.2.3`
abbrev pub next_version : VersionValue → VersionValue
next_version v = next_by v v.pre_release

-- a release with the greatest patch that a field can hold
pub record HasGreatestPatch (v : VersionValue) : Type 0 where
  pub is_release : v.pre_release ≡ []
  pub patch : v.patch + 1 ≡ 2 ^ 64
