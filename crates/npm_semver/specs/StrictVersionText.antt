-- Strict version texts: SemVer 2.0.0, "Backus–Naur Form Grammar for Valid SemVer Versions", with the limits of
-- `VersionText`. They are the version texts that are strictly written: `1.2.3-a.1+01`, and not `v1.2.3`, `01.2.3`,
-- `1.2.3a` or `1.2.3-01`.
use Rattle.std.specs.Prelude.{◌≡◌, ℕ, ◌+◌, ◌==◌, ◌&&◌, ◌||◌, Bool, true, false, List, [], ◌∷◌, length, not}
use Rattle.std.specs.List.{after_first, before_first, list_all, take_while}
use Rattle.semver_texts.specs.Characters.{digit_zero, hyphen, is_digit, plus}
use Rattle.semver_versions.specs.Error.{IsRefusalAt, Kind, other}
use Rattle.semver_versions.specs.Fault.{IsFault, with_dots}
use Rattle.semver_texts.specs.IdentifierText.{parts_of}
use Rattle.semver_texts.specs.Version.{VersionValue}
use Rattle.semver_texts.specs.VersionText.{IsVersionText}
use Rattle.semver_versions.specs.VersionFault.{fault_kind_of}
use Rattle.semver_versions.specs.declared.error.SemverError.{SemverError}
use Rattle.semver_versions.specs.declared.version_ref.fault.VersionFault.{VersionFault}

-- the text has a `0` and more after it: `01`
abbrev pub has_zero_in_front : List ℕ → Bool
has_zero_in_front [] = false
has_zero_in_front (b ∷ []) = false
has_zero_in_front (b ∷ c ∷ rest) = b == digit_zero

-- one or more digits, without a zero in front: `0`, `10`
abbrev pub is_strict_number : List ℕ → Bool
is_strict_number [] = false
is_strict_number (b ∷ rest) = list_all is_digit (b ∷ rest) && not (has_zero_in_front (b ∷ rest))

-- not digits with a zero in front: `0`, `a`, `01a`, but not `01`
abbrev pub is_strict_identifier : List ℕ → Bool
is_strict_identifier text = not (list_all is_digit text && has_zero_in_front text)

-- the text before the first `-` or `+`: `1.2.3` of `1.2.3-a.1+b`
abbrev pub numbers_text : List ℕ → List ℕ
numbers_text text = before_first (λ b. (b == hyphen) || (b == plus)) text

-- the text after the first `-`, up to the first `+`: `a.1` of `1.2.3-a.1+b`, and nothing of `1.2.3+b-c`
abbrev pub prerelease_text : List ℕ → List ℕ
prerelease_text text = after_first (λ b. b == hyphen) (before_first (λ b. b == plus) text)

-- Between the dots of the one text are numbers without a zero in front, and between those of the other no digits with a
-- zero in front. So a version text has no mark and no blanks, and `-` comes before its prerelease.
pub record IsStrictlyWritten (text : List ℕ) : Type 0 where
  pub numbers : list_all is_strict_number (parts_of (numbers_text text)) ≡ true
  pub identifiers : list_all is_strict_identifier (parts_of (prerelease_text text)) ≡ true

-- a version text that is strictly written
pub record IsStrictVersionText (text : List ℕ) (v : VersionValue) : Type 0 where
  pub version : IsVersionText text v
  pub strict : IsStrictlyWritten text

-- ---- the fault of a text that is no strict version text

-- where the first of the parts between dots starts that does not pass the test: 2 in `1.02.3`
abbrev pub first_failing : (List ℕ → Bool) → List ℕ → ℕ
first_failing test text = length (with_dots (take_while test (parts_of text)))

-- the offset of the first number or identifier that is not strictly written
pub data IsUnstrictAt (text : List ℕ) : ℕ → Type 0 where
  -- `v1.2.3` and `01.2.3` at 0, `1.2.3a` at 4
  number : list_all is_strict_number (parts_of (numbers_text text)) ≡ false
      → IsUnstrictAt text (first_failing is_strict_number (numbers_text text))
  -- `1.2.3-a.01` at 8
  identifier : list_all is_strict_number (parts_of (numbers_text text)) ≡ true
      → list_all is_strict_identifier (parts_of (prerelease_text text)) ≡ false
      → IsUnstrictAt text
      (length (numbers_text text) + 1 + first_failing is_strict_identifier (prerelease_text text))

-- the kind and the byte offset of the fault of a text that is no strict version text
pub data IsStrictFault (text : List ℕ) : Kind → ℕ → Type 0 where
  -- that of a text that is no version text in the loose form either: `1.2` at 3
  loose : (kind : Kind) (offset : ℕ) → IsFault text kind offset → IsStrictFault text kind offset
  -- otherwise the offset of the first number or identifier that is not strictly written
  unstrict : (v : VersionValue) (offset : ℕ) → IsVersionText text v → IsUnstrictAt text offset
      → IsStrictFault text other offset

-- an error is the one for the strict fault of this text
abbrev pub IsStrictFaultOf : List ℕ → SemverError → Type 0
IsStrictFaultOf text e =
    (kind : Kind) × (offset : ℕ) × IsStrictFault text kind offset × IsRefusalAt text kind offset e

-- a fault without a copy of the text is the strict fault of this text
abbrev pub IsStrictVersionFault : List ℕ → VersionFault → Type 0
IsStrictVersionFault text f = IsStrictFault text (fault_kind_of f.kind) f.offset
