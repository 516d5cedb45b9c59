-- The parts of errors and places that the methods of these names return.
use Rattle.std.specs.Prelude.{ℕ}
use Rattle.semver_versions.specs.declared.error.kind.SemverErrorKind.{SemverErrorKind}
use Rattle.semver_versions.specs.declared.error.span.SourceSpan.{SourceSpan}
use Rattle.semver_versions.specs.declared.error.SemverError.{SemverError}

-- the byte offset of a place, from 0
abbrev pub span_offset : SourceSpan → ℕ
span_offset span = span.offset

-- the length of a place in bytes
abbrev pub span_len : SourceSpan → ℕ
span_len span = span.length

-- the kind of an error, with its number, word or std error
abbrev pub error_kind_of : SemverError → SemverErrorKind
error_kind_of e = e.kind
