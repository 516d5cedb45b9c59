-- What a contract sees of an error: the text that was parsed, the place of its fault, and the kind of the fault.
use Rattle.std.specs.Prelude.{◌≡◌, ℕ, List, [], Result, Ok, Err, string_bytes}
use Rattle.semver_texts.specs.Version.{VersionValue}
use Rattle.semver_versions.specs.declared.error.kind.SemverErrorKind.{SemverErrorKind}
use Rattle.semver_versions.specs.declared.error.kind.SemverErrorKind.TheVariants.{MaxLengthError, IncompleteInput}
use Rattle.semver_versions.specs.declared.error.kind.SemverErrorKind.TheVariants.{ParseIntError, MaxIntError, Context}
use Rattle.semver_versions.specs.declared.error.kind.SemverErrorKind.TheVariants.{NoValidRanges, Other, OutOfMemory}
use Rattle.semver_versions.specs.declared.error.SemverError.{SemverError}

-- a kind as a value: the number of `MaxIntError`, and the word of `Context` as its bytes
pub data Kind : Type 0 where
  max_length : Kind
  incomplete : Kind
  parse_int : Kind
  max_int : ℕ → Kind
  context : List ℕ → Kind
  no_valid_ranges : Kind
  other : Kind
  out_of_memory : Kind

abbrev pub kind_of : SemverErrorKind → Kind
kind_of MaxLengthError = max_length
kind_of IncompleteInput = incomplete
kind_of (ParseIntError fault) = parse_int
kind_of (MaxIntError number) = max_int number
kind_of (Context word) = context word.now
kind_of NoValidRanges = no_valid_ranges
kind_of Other = other
kind_of OutOfMemory = out_of_memory

-- an error as a value: the text, the byte offset of its fault from 0, the length of the fault in bytes, and the kind
pub record Refusal : Type 0 where
  pub input : List ℕ
  pub offset : ℕ
  pub length : ℕ
  pub kind : Kind

abbrev pub refusal_of : SemverError → Refusal
refusal_of e = record {
  input = string_bytes e.input;
  offset = e.span.offset;
  length = e.span.length;
  kind = kind_of e.kind;
}

-- e is the error for this text, kind and offset, with length 0
abbrev pub IsRefusalAt : List ℕ → Kind → ℕ → SemverError → Type 0
IsRefusalAt text kind offset e = refusal_of e ≡ record { input = text; offset = offset; length = 0; kind = kind }

-- e reports that an allocation failed: with an empty text, at offset 0
abbrev pub IsOutOfMemory : SemverError → Type 0
IsOutOfMemory e = IsRefusalAt [] out_of_memory 0 e

-- the result is this version, or the error that an allocation failed
abbrev pub IsReadAs : VersionValue → Result VersionValue SemverError → Type 0
IsReadAs v (Ok w) = w ≡ v
IsReadAs v (Err e) = IsOutOfMemory e
