-- What a contract sees of the result of a part of `Version::parse`.
use Rattle.std.specs.Prelude.{◌≡◌, ◌⊎◌, ℕ, List, [], Result, IfOk, IfErr, IsOk}
use Rattle.semver_texts.specs.Version.{VersionValue}
use Rattle.semver_texts.specs.VersionText.{IsVersionText}
use Rattle.semver_versions.specs.Error.{IsOutOfMemory}
use Rattle.semver_versions.specs.Fault.{IsFaultOf}
use Rattle.semver_versions.specs.declared.error.SemverError.{SemverError}

-- the version that the text writes, or the error for its fault or for a failed allocation. A text of a version without
-- prerelease and build has no error.
pub record IsParsed (text : List ℕ) (result : Result VersionValue SemverError) : Type 0 where
  pub found : IfOk result (λ v. IsVersionText text v)
  pub fault : IfErr result (λ e. IsOutOfMemory e ⊎ IsFaultOf text e)
  pub plain : (v : VersionValue) → IsVersionText text v → v.pre_release ≡ [] → v.build ≡ [] → IsOk result
