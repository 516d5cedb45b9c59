-- The version that bytes are the key of. A key does not have the build, so the version has none.
use Rattle.std.specs.Prelude.{◌≡◌, ◌≢◌, ℕ, List, []}
use Rattle.semver_texts.specs.Version.{VersionValue}
use Rattle.semver_versions.specs.VersionSteps.{IsVersion}
use Rattle.semver_keys.specs.VersionKey.{HasWords, version_key}

-- the bytes are the key of this version, and it has no build
pub record IsVersionOfKey (key : List ℕ) (v : VersionValue) : Type 0 where
  pub words : HasWords v
  pub key_is : version_key v ≡ key
  pub build : v.build ≡ []

-- they are the key of no version: of no numbers of 64 bits and identifiers with texts in UTF-8
abbrev pub IsNoKey : List ℕ → Type 0
IsNoKey key = (v : VersionValue) → IsVersion v → version_key v ≢ key

-- they are the key of a release of three numbers of 64 bits
pub record IsKeyOfRelease (key : List ℕ) : Type 0 where
  pub version : VersionValue
  pub words : HasWords version
  pub release : version.pre_release ≡ []
  pub key_is : version_key version ≡ key
