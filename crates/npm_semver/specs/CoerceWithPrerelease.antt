-- The version that is found in a text with its prerelease and its build: npm's `coerce` with `includePrerelease`, as
-- its
-- README has it under "Coercion". Places in the text are counted from 0.
use Rattle.std.specs.Prelude.{◌≡◌, ◌⊎◌, ◌+◌, ◌-◌, ◌*◌, ◌<◌, ◌≤◌, ℕ, Bool, true, false, List, length}
use Rattle.std.specs.Prelude.{slice_index, slice_range}
use Rattle.semver_texts.specs.declared.TheConstants.{MAX_LENGTH}
use Rattle.semver_texts.specs.Characters.{digit_zero, dot, hyphen, is_digit, is_identifier_character, plus}
use Rattle.npm_semver.specs.Coerce.{IsPiece, IsReleaseOf}
use Rattle.semver_texts.specs.IdentifierText.{identifiers_of}
use Rattle.semver_texts.specs.Version.{VersionValue, release}

-- ---- the identifiers that follow a piece

-- from `start` up to `end` all characters pass the test, and the one after them does not
pub record IsRunAt (test : ℕ → Bool) (text : List ℕ) (start end : ℕ) : Type 0 where
  pub within : end ≤ length text
  pub some : start < end
  pub passes : (place : ℕ) → start ≤ place → place < end → test (slice_index text place) ≡ true
  pub after : test (slice_index text end) ≡ false

-- digits without a zero in front: `0`, and `10` in `10a`, but nothing in `010`
pub record IsNumericAt (text : List ℕ) (start end : ℕ) : Type 0 where
  pub digits : IsRunAt is_digit text start end
  pub strict : slice_index text start ≡ digit_zero → end ≡ start + 1

-- identifier characters that are not digits only, and that do not begin with digits without a zero in front: `rc1` and
-- `01a`, but neither `01` nor `1a`, where npm reads the identifier `1`
pub record IsWordAt (text : List ℕ) (start end : ℕ) : Type 0 where
  pub characters : IsRunAt is_identifier_character text start end
  pub letter : ¬ IsRunAt is_digit text start end
  pub number : (other : ℕ) → ¬ IsNumericAt text start other

-- an identifier of a prerelease
abbrev pub IsPrereleaseIdentifierAt : List ℕ → (start end : ℕ) → Type 0
IsPrereleaseIdentifierAt text start end = IsNumericAt text start end ⊎ IsWordAt text start end

-- an identifier of a build
abbrev pub IsBuildIdentifierAt : List ℕ → (start end : ℕ) → Type 0
IsBuildIdentifierAt text start end = IsRunAt is_identifier_character text start end

-- identifiers with a dot between each two of them: `rc.1`
pub data AreListedAt (IsIdentifierAt : List ℕ → (start end : ℕ) → Type 0) (text : List ℕ)
    : (start end : ℕ) → Type 0 where
  last : (start end : ℕ) → IsIdentifierAt text start end → AreListedAt IsIdentifierAt text start end
  more : (start middle end : ℕ) → IsIdentifierAt text start middle → slice_index text middle ≡ dot
      → AreListedAt IsIdentifierAt text (middle + 1) end → AreListedAt IsIdentifierAt text start end

-- a mark, and identifiers after it
abbrev pub IsMarkedAt : ℕ → (List ℕ → (start end : ℕ) → Type 0) → List ℕ → (start end : ℕ) → Type 0
IsMarkedAt mark IsIdentifierAt text start end =
    (slice_index text start ≡ mark) × AreListedAt IsIdentifierAt text (start + 1) end

-- the longest of these, or nothing if there is none
pub record IsLongestAt (mark : ℕ) (IsIdentifierAt : List ℕ → (start end : ℕ) → Type 0) (text : List ℕ)
    (start end : ℕ) : Type 0 where
  pub there : (end ≡ start) ⊎ IsMarkedAt mark IsIdentifierAt text start end
  pub longest : (other : ℕ) → IsMarkedAt mark IsIdentifierAt text start other → other ≤ end

-- ---- a piece with its prerelease and its build

-- where the numbers, the prerelease and the build of a piece end
pub record Ends : Type 0 where
  pub numbers : ℕ
  pub prerelease : ℕ
  pub build : ℕ

-- The longest piece that starts here, with a prerelease and a build if they follow: `1.2.3-rc.1+5`. `numbers` are the
-- texts of its numbers.
pub record IsFullPiece (text : List ℕ) (start : ℕ) (ends : Ends) (numbers : List (List ℕ)) : Type 0 where
  pub piece : IsPiece text start ends.numbers numbers
  pub longest : (end : ℕ) (others : List (List ℕ)) → IsPiece text start end others → end ≤ ends.numbers
  pub prerelease : IsLongestAt hyphen IsPrereleaseIdentifierAt text ends.numbers ends.prerelease
  pub build : IsLongestAt plus IsBuildIdentifierAt text ends.prerelease ends.build

-- one of at most 256 bytes
pub record IsShortPiece (text : List ℕ) (start end : ℕ) : Type 0 where
  pub ends : Ends
  pub numbers : List (List ℕ)
  pub full : IsFullPiece text start ends numbers
  pub whole : end ≡ ends.build
  pub short : end ≤ start + MAX_LENGTH

-- From the right npm takes one that ends where the text does, or one byte before; else one after whose start all others
-- end where it does.
abbrev pub IsLastEnd : List ℕ → (start end : ℕ) → Type 0
IsLastEnd text start end = (length text ≤ end + 1)
    ⊎ ((other_start other_end : ℕ) → IsShortPiece text other_start other_end → start ≤ other_start → other_end ≡ end)

-- the one that starts first: `1.2.3-rc.1` in `v1.2.3-rc.1 4.5.6`
pub record IsFirstFull (text : List ℕ) (start : ℕ) (ends : Ends) (numbers : List (List ℕ)) : Type 0 where
  pub full : IsFullPiece text start ends numbers
  pub first : (other_start other_end : ℕ) (others : List (List ℕ)) → IsPiece text other_start other_end others
      → start ≤ other_start

-- the longest one that ends there: `2.3.4-rc.1` in `1.2.3.4-rc.1`
pub record IsLastFull (text : List ℕ) (start : ℕ) (ends : Ends) (numbers : List (List ℕ)) : Type 0 where
  pub full : IsFullPiece text start ends numbers
  pub short : ends.build ≤ start + MAX_LENGTH
  pub last : IsLastEnd text start ends.build
  pub longest : (other_start other_end : ℕ) → IsShortPiece text other_start other_end
      → IsLastEnd text other_start other_end → start ≤ other_start

-- from the left the first one, from the right the last one
abbrev pub IsChosenFull : (rtl : Bool) → List ℕ → (start : ℕ) → Ends → List (List ℕ) → Type 0
IsChosenFull false text start ends numbers = IsFirstFull text start ends numbers
IsChosenFull true text start ends numbers = IsLastFull text start ends numbers

-- ---- the version

-- the bytes of `.0` for each number that is missing: 4 for `1`
abbrev pub missing_length : List (List ℕ) → ℕ
missing_length numbers = 2 * (3 - length numbers)

-- The version of a full piece. There is none if a number has a zero in front or is too large, or if the text of the
-- version would have more than 256 bytes.
pub record IsVersionOf (text : List ℕ) (start : ℕ) (ends : Ends) (numbers : List (List ℕ)) (v : VersionValue)
    : Type 0 where
  pub short : ends.build + missing_length numbers ≤ start + MAX_LENGTH
  pub triple : IsReleaseOf numbers (release v.major v.minor v.patch)
  pub prerelease : v.pre_release ≡ identifiers_of (slice_range text (ends.numbers + 1) ends.prerelease)
  pub build : v.build ≡ identifiers_of (slice_range text (ends.prerelease + 1) ends.build)

-- the version that is found in the text: that of the chosen piece, whatever other pieces there are
pub record IsCoercedWithPrerelease (rtl : Bool) (text : List ℕ) (v : VersionValue) : Type 0 where
  pub start : ℕ
  pub ends : Ends
  pub numbers : List (List ℕ)
  pub chosen : IsChosenFull rtl text start ends numbers
  pub version : IsVersionOf text start ends numbers v
