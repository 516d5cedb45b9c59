-- The version that is found in a text: npm's `coerce`, as its README has it under "Coercion". Places in the text are
-- counted from 0.
use Rattle.std.specs.Prelude.{◌≡◌, ◌+◌, ◌<◌, ◌≤◌, ℕ, Bool, true, false, List, [], ◌∷◌, length}
use Rattle.std.specs.Prelude.{slice_index, slice_range}
use Rattle.semver_texts.specs.Characters.{dot, is_digit}
use Rattle.semver_texts.specs.NumberText.{IsNumberText}
use Rattle.npm_semver.specs.StrictVersionText.{is_strict_number}
use Rattle.semver_texts.specs.Version.{VersionValue, release}

-- ---- the pieces of a text that look like a version

-- `true` if there is a digit at this place
abbrev pub is_digit_at : List ℕ → ℕ → Bool
is_digit_at text place = is_digit (slice_index text place)

-- a number of at most 16 digits, from `start` up to `end`, that is not beside another digit
pub record IsNumberAt (text : List ℕ) (start end : ℕ) : Type 0 where
  pub within : end ≤ length text
  pub some : start < end
  pub short : end ≤ start + 16
  pub digits : (place : ℕ) → start ≤ place → place < end → is_digit_at text place ≡ true
  pub before : (place : ℕ) → place + 1 ≡ start → is_digit_at text place ≡ false
  pub after : is_digit_at text end ≡ false

-- A piece, from `start` up to `end`, with the texts of its numbers: one, two or three numbers with a dot between each
-- two of them. `1.2.3` has the pieces `1`, `1.2`, `1.2.3`, `2`, `2.3` and `3`.
pub data IsPiece (text : List ℕ) : (start end : ℕ) → List (List ℕ) → Type 0 where
  one : (start end : ℕ) → IsNumberAt text start end → IsPiece text start end (slice_range text start end ∷ [])
  two : (start first end : ℕ) → IsNumberAt text start first → slice_index text first ≡ dot
      → IsNumberAt text (first + 1) end
      → IsPiece text start end (slice_range text start first ∷ slice_range text (first + 1) end ∷ [])
  three : (start first second end : ℕ) → IsNumberAt text start first → slice_index text first ≡ dot
      → IsNumberAt text (first + 1) second → slice_index text second ≡ dot → IsNumberAt text (second + 1) end
      → IsPiece text start end (slice_range text start first
      ∷ slice_range text (first + 1) second
      ∷ slice_range text (second + 1) end
      ∷ [])

-- the piece that starts first, and the longest of those: `1.2.3` in `1.2.3.4`
pub record IsFirstPiece (text : List ℕ) (start end : ℕ) (numbers : List (List ℕ)) : Type 0 where
  pub piece : IsPiece text start end numbers
  pub first : (other_start other_end : ℕ) (others : List (List ℕ)) → IsPiece text other_start other_end others
      → start ≤ other_start
  pub longest : (other_end : ℕ) (others : List (List ℕ)) → IsPiece text start other_end others → other_end ≤ end

-- the piece that ends last, and the longest of those: `2.3.4` in `1.2.3.4`
pub record IsLastPiece (text : List ℕ) (start end : ℕ) (numbers : List (List ℕ)) : Type 0 where
  pub piece : IsPiece text start end numbers
  pub last : (other_start other_end : ℕ) (others : List (List ℕ)) → IsPiece text other_start other_end others
      → other_end ≤ end
  pub longest : (other_start : ℕ) (others : List (List ℕ)) → IsPiece text other_start end others → start ≤ other_start

-- from the left the first piece, from the right the last one
abbrev pub IsChosen : (rtl : Bool) → List ℕ → (start end : ℕ) → List (List ℕ) → Type 0
IsChosen false text start end numbers = IsFirstPiece text start end numbers
IsChosen true text start end numbers = IsLastPiece text start end numbers

-- ---- the version of a piece

-- a number without a zero in front, of at most MAX_SAFE_INTEGER: `10`, and not `010`
pub record IsStrictNumber (digits : List ℕ) (number : ℕ) : Type 0 where
  pub read : IsNumberText digits number
  pub strict : is_strict_number digits ≡ true

-- the release with these numbers, where those that are missing are 0: `1.2.0` for `1.2`
abbrev pub IsReleaseOf : List (List ℕ) → VersionValue → Type 0
IsReleaseOf (a ∷ []) v = (major : ℕ) × IsStrictNumber a major × (v ≡ release major 0 0)
IsReleaseOf (a ∷ b ∷ []) v =
    (major minor : ℕ) × IsStrictNumber a major × IsStrictNumber b minor × (v ≡ release major minor 0)
IsReleaseOf (a ∷ b ∷ c ∷ []) v =
    (major minor patch : ℕ) × IsStrictNumber a major × IsStrictNumber b minor × IsStrictNumber c patch
    × (v ≡ release major minor patch)
IsReleaseOf numbers v = ⊥

-- the version that is found in the text. None is found if the chosen piece has a number with a zero in front, or one
-- that is too large, whatever other pieces there are: as in `01.2.3 4.5.6`
pub record IsCoerced (rtl : Bool) (text : List ℕ) (v : VersionValue) : Type 0 where
  pub start : ℕ
  pub end : ℕ
  pub numbers : List (List ℕ)
  pub chosen : IsChosen rtl text start end numbers
  pub version : IsReleaseOf numbers v
