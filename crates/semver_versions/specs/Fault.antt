-- The fault of a text that is no version text: a kind, and a byte offset from 0. It is the first fault from the left,
-- when the text is read as a version text is written: SemVer 2.0.0, section 2, in npm's loose form.
-- See docs/DECISIONS.md, "The fault of a text does not depend on the parser".
use Rattle.std.specs.Prelude.{◌≡◌, ℕ, ◌^◌, ◌-◌, ◌==◌, ◌<◌, ◌≤◌, nat_lt, if◌then◌else◌}
use Rattle.std.specs.Prelude.{false, List, [], ◌∷◌, ◌++◌, length, codes}
use Rattle.std.specs.List.{AllByRecursion}
use Rattle.semver_texts.specs.declared.TheConstants.{MAX_LENGTH, MAX_SAFE_INTEGER}
use Rattle.semver_texts.specs.Characters.{AreAll, BeginsWith, BeginsWithNo, dot}
use Rattle.semver_texts.specs.Characters.{is_blank, is_digit, is_version_mark, mark_of}
use Rattle.semver_texts.specs.NumberText.{IsNumberText, number_of}
use Rattle.semver_texts.specs.Version.{VersionValue}
use Rattle.semver_texts.specs.VersionText.{IsVersionText}
use Rattle.semver_versions.specs.Error.{IsRefusalAt, Kind, context, max_int, max_length, other, parse_int}
use Rattle.semver_versions.specs.declared.error.SemverError.{SemverError}

-- each text with a dot after it: `1.22.` of `1` and `22`
abbrev pub with_dots : List (List ℕ) → List ℕ
with_dots [] = []
with_dots (text ∷ texts) = text ++ (dot ∷ with_dots texts)

-- The text is a prefix and a rest. The prefix is the text's mark if it has one, all blanks after it, and up to two
-- numbers, each with its dot: `v 1.2.`
pub record HasPrefix (text prefix rest : List ℕ) (count : ℕ) : Type 0 where
  pub whole : text ≡ prefix ++ rest
  pub blanks : List ℕ
  pub numbers : List (List ℕ)
  pub pieces : prefix ≡ mark_of is_version_mark text ++ (blanks ++ with_dots numbers)
  pub blank : AreAll is_blank blanks
  pub blanks_end : BeginsWithNo is_blank (with_dots numbers ++ rest)
  pub read : AllByRecursion (λ digits. (number : ℕ) × IsNumberText digits number) numbers
  pub counted : length numbers ≡ count
  pub few : count ≤ 2

-- all leading digits before this rest: `12` before `.3`
pub record IsAllDigits (digits rest : List ℕ) : Type 0 where
  pub some : BeginsWith is_digit digits
  pub all : AreAll is_digit digits
  pub end : BeginsWithNo is_digit rest

-- the kind for a number above MAX_SAFE_INTEGER. It contains the number if that has at most 64 bits
abbrev pub too_large : ℕ → Kind
too_large number = if nat_lt number (2 ^ 64) then max_int number else parse_int

-- no longer prefix of the text is a version text
abbrev pub IsLongest : (text prefix : List ℕ) → Type 0
IsLongest text prefix = (taken rest : List ℕ) (v : VersionValue) → text ≡ taken ++ rest → IsVersionText taken v
    → length taken ≤ length prefix

-- the kind and the byte offset of the fault of a text that is no version text
pub data IsFault (text : List ℕ) : Kind → ℕ → Type 0 where
  -- more than 256 bytes: at the last byte
  too_long : MAX_LENGTH < length text → IsFault text max_length (length text - 1)
  -- no digit where a number has to be: `1.` at 2
  no_number : (prefix rest : List ℕ) (count : ℕ) → length text ≤ MAX_LENGTH
      → HasPrefix text prefix rest count → BeginsWithNo is_digit rest
      → IsFault text (context (codes "version")) (length prefix)
  -- a number above MAX_SAFE_INTEGER, with all its digits, whatever follows it: `1.99999999999999999999.a` at 2
  large_number : (prefix digits rest : List ℕ) (count : ℕ) → length text ≤ MAX_LENGTH
      → HasPrefix text prefix (digits ++ rest) count → IsAllDigits digits rest → MAX_SAFE_INTEGER < number_of digits
      → IsFault text (too_large (number_of digits)) (length prefix)
  -- no dot after the first or the second number: `1.2` at 3
  no_dot : (prefix digits rest : List ℕ) (count : ℕ) → length text ≤ MAX_LENGTH
      → HasPrefix text prefix (digits ++ rest) count → count < 2 → IsAllDigits digits rest
      → number_of digits ≤ MAX_SAFE_INTEGER → BeginsWithNo (λ b. b == dot) rest
      → IsFault text (context (codes "version")) (length (prefix ++ digits))
  -- Otherwise a byte is left after the longest prefix that is a version text: `1.2.3 ` at 5. This byte is no digit,
  -- because the third number has all digits: in `1.2.99999999999999999999` that number is too large, though `1.2.9` is
  -- a version text.
  left_over : (prefix : List ℕ) (v : VersionValue) (b : ℕ) (rest : List ℕ) → length text ≤ MAX_LENGTH
      → text ≡ prefix ++ (b ∷ rest) → is_digit b ≡ false → IsVersionText prefix v → IsLongest text prefix
      → IsFault text other (length prefix)

-- an error is the one for the fault of this text
abbrev pub IsFaultOf : List ℕ → SemverError → Type 0
IsFaultOf text e = (kind : Kind) × (offset : ℕ) × IsFault text kind offset × IsRefusalAt text kind offset e
