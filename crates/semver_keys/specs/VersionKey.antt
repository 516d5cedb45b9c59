-- The key of a version: 1, 2, 3 and 255 for 1.2.3, and 1, 2, 3, 2, 114, 99, 0, 1, 4 and 0 for 1.2.3-rc.4. The build is
-- not in it, as it is not in the order of versions.
use Rattle.std.specs.Prelude.{ℕ, ◌^◌, ◌<◌, ◌++◌, List}
use Rattle.std.specs.List.{AllByRecursion}
use Rattle.semver_texts.specs.IdentifierValue.{IdentifierValue, numeric, alphanumeric}
use Rattle.semver_texts.specs.Version.{VersionValue}
use Rattle.semver_keys.specs.IdentifierKey.{prerelease_key}
use Rattle.semver_keys.specs.NumberKey.{number_key}

-- the three numbers, and what follows them
unfoldable pub version_key : VersionValue → List ℕ
version_key v = number_key v.major ++ (number_key v.minor ++ (number_key v.patch ++ prerelease_key v.pre_release))

-- a number of 64 bits, or a text
abbrev pub HasWord : IdentifierValue → Type 0
HasWord (numeric n) = n < 2 ^ 64
HasWord (alphanumeric text) = Unit {0}

-- The numbers are of 64 bits. They are in each `Version` and `VersionRef`: their fields are of the type `u64`.
pub record HasWords (v : VersionValue) : Type 0 where
  pub major : v.major < 2 ^ 64
  pub minor : v.minor < 2 ^ 64
  pub patch : v.patch < 2 ^ 64
  pub identifiers : AllByRecursion HasWord v.pre_release
