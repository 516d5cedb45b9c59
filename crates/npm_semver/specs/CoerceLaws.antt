-- The law of what is found in the print of a version.
use Rattle.std.specs.Prelude.{false}
use Rattle.npm_semver.specs.Coerce.{IsCoerced}
use Rattle.semver_texts.specs.Print.{version_text}
use Rattle.semver_texts.specs.ReadingBack.{HasTextNumbers}
use Rattle.semver_texts.specs.Version.{VersionValue, release}

-- the release with its triple is found in the print of the version, whatever prerelease and build it has
abbrev pub PrintIsCoerced : VersionValue → Type 0
PrintIsCoerced v = HasTextNumbers v → IsCoerced false (version_text v) (release v.major v.minor v.patch)
