-- What identifiers and versions feed to a hasher. The build is left out, because equality ignores it.
use Rattle.std.specs.Prelude.{◌++◌}
use Rattle.std.specs.Hash as fed
use Rattle.std.specs.Hash.{HashWrites}
use Rattle.semver_texts.specs.IdentifierValue.{IdentifierValue, numeric, alphanumeric}
use Rattle.semver_texts.specs.Version.{VersionValue}

-- 0 and the number, or 1 and the text
abbrev pub identifier_writes : IdentifierValue → HashWrites
identifier_writes (numeric n) = fed.u8 0 ++ fed.u64 n
identifier_writes (alphanumeric t) = fed.u8 1 ++ fed.str t

-- major, minor, patch and the prerelease
abbrev pub version_writes : VersionValue → HashWrites
version_writes v = fed.u64 v.major ++ fed.u64 v.minor ++ fed.u64 v.patch ++ fed.slice identifier_writes v.pre_release
