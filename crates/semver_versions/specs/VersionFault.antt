-- What a contract sees of the fault that `VersionRef::parse` returns: kind and byte offset.
use Rattle.std.specs.Prelude.{◌≡◌, ℕ, List, codes, Option, Result, Ok, Err}
use Rattle.semver_texts.specs.Version.{VersionValue}
use Rattle.semver_versions.specs.Error.{Kind, context, max_int, max_length, other, parse_int}
use Rattle.semver_versions.specs.ErrorText.{text_of}
use Rattle.semver_versions.specs.Fault.{IsFault}
use Rattle.semver_versions.specs.declared.version_ref.fault.VersionFault.{VersionFault}
use Rattle.semver_versions.specs.declared.version_ref.fault.FaultKind.{FaultKind}
use Rattle.semver_versions.specs.declared.version_ref.fault.FaultKind.TheVariants.{TooLong, Missing, TooLarge, Overflow}
use Rattle.semver_versions.specs.declared.version_ref.fault.FaultKind.TheVariants.{LeftOver}

abbrev pub fault_kind_of : FaultKind → Kind
fault_kind_of TooLong = max_length
fault_kind_of Missing = context (codes "version")
fault_kind_of (TooLarge number) = max_int number
fault_kind_of Overflow = parse_int
fault_kind_of LeftOver = other

-- the text that a fault prints: that of its kind
abbrev pub fault_text : VersionFault → Option (List ℕ)
fault_text f = text_of (fault_kind_of f.kind)

-- it is the fault of this text
abbrev pub IsVersionFault : List ℕ → VersionFault → Type 0
IsVersionFault text f = IsFault text (fault_kind_of f.kind) f.offset

-- the result is this version
abbrev pub IsBorrowedAs : {E : Type 0} → VersionValue → Result VersionValue E → Type 0
IsBorrowedAs v (Ok w) = w ≡ v
IsBorrowedAs v (Err e) = ⊥
