-- Which prints of versions are read back as the version. So a file can store a version as its print.
use Rattle.std.specs.Prelude.{ℕ, ◌≤◌, List, length}
use Rattle.semver_texts.specs.declared.TheConstants.{MAX_LENGTH, MAX_SAFE_INTEGER}
use Rattle.semver_texts.specs.Print.{version_text}
use Rattle.semver_texts.specs.Version.{VersionValue}
use Rattle.semver_texts.specs.VersionText.{IsVersionText}

-- if the print of the version has at most 256 bytes, it is a version text with exactly its five fields
abbrev pub VersionReadsBack : VersionValue → Type 0
VersionReadsBack v = length (version_text v) ≤ MAX_LENGTH → IsVersionText (version_text v) v

-- some text is read as the version
abbrev pub HasText : VersionValue → Type 0
HasText v = (text : List ℕ) × IsVersionText text v

-- a text can write this triple. It cannot write 9007199254740992.0.0, where `>9007199254740991` begins
pub record HasTextNumbers (v : VersionValue) : Type 0 where
  pub major : v.major ≤ MAX_SAFE_INTEGER
  pub minor : v.minor ≤ MAX_SAFE_INTEGER
  pub patch : v.patch ≤ MAX_SAFE_INTEGER
