-- What the readers of a prerelease and a build after a piece find.
use Rattle.std.specs.Prelude.{◌≡◌, ◌+◌, ◌<◌, ◌≤◌, ℕ, Bool, List, Option, IfNone, IfSome, length, slice_index}
use Rattle.semver_texts.specs.declared.TheConstants.{MAX_LENGTH}
use Rattle.semver_texts.specs.Characters.{hyphen, is_identifier_character, plus}
use Rattle.npm_semver.specs.CoerceWithPrerelease.{AreListedAt, Ends, IsBuildIdentifierAt, IsFullPiece, IsLongestAt}
use Rattle.npm_semver.specs.CoerceWithPrerelease.{IsMarkedAt, IsPrereleaseIdentifierAt, IsShortPiece}
use Rattle.npm_semver.specs.Private.PieceViews.{numbers_of}
use Rattle.npm_semver.specs.declared.coercion.extras.Ending.{Ending}
use Rattle.npm_semver.specs.declared.coercion.extras.Ending.TheVariants.{AfterLimit, At, Missing}
use Rattle.npm_semver.specs.declared.coercion.extras.Extra.{Extra}
use Rattle.npm_semver.specs.declared.coercion.extras.Extra.TheVariants.{Build, Prerelease}
use Rattle.npm_semver.specs.declared.coercion.full.FullPiece.{FullPiece}

-- `true` if there is an identifier character at this place
abbrev pub is_character_at : List ℕ → ℕ → Bool
is_character_at text place = is_identifier_character (slice_index text place)

abbrev pub mark_of : Extra → ℕ
mark_of Prerelease = hyphen
mark_of Build = plus

-- an identifier of it
abbrev pub IsIdentifierOf : Extra → List ℕ → (start end : ℕ) → Type 0
IsIdentifierOf Prerelease = IsPrereleaseIdentifierAt
IsIdentifierOf Build = IsBuildIdentifierAt

-- identifiers of it
abbrev pub IsListOf : Extra → List ℕ → (start end : ℕ) → Type 0
IsListOf extra text start end = AreListedAt (IsIdentifierOf extra) text start end

-- its mark and identifiers
abbrev pub IsMarkedOf : Extra → List ℕ → (start end : ℕ) → Type 0
IsMarkedOf extra text start end = IsMarkedAt (mark_of extra) (IsIdentifierOf extra) text start end

-- the longest of these, or nothing
abbrev pub IsLongestOf : Extra → List ℕ → (start end : ℕ) → Type 0
IsLongestOf extra text start end = IsLongestAt (mark_of extra) (IsIdentifierOf extra) text start end

-- it ends after the limit
abbrev pub IsLonger : Extra → List ℕ → (start limit : ℕ) → Type 0
IsLonger extra text start limit = (end : ℕ) × (limit < end) × IsMarkedOf extra text start end

-- one of the ends, or an end that is after the limit
abbrev pub IsEnding : (ℕ → Type 0) → (limit : ℕ) → Ending → Type 0
IsEnding IsEnd limit Missing = (end : ℕ) → ¬ IsEnd end
IsEnding IsEnd limit (At end) = IsEnd end
IsEnding IsEnd limit AfterLimit = (end : ℕ) × (limit < end) × IsEnd end

-- the greatest of the ends of a list, or an end that is after the limit
abbrev pub IsListEnding : Extra → List ℕ → (start limit : ℕ) → Ending → Type 0
IsListEnding extra text start limit Missing = (end : ℕ) → ¬ IsListOf extra text start end
IsListEnding extra text start limit (At end) =
    IsListOf extra text start end × (end ≤ limit) × ((other : ℕ) → IsListOf extra text start other → other ≤ end)
IsListEnding extra text start limit AfterLimit = (end : ℕ) × (limit < end) × IsListOf extra text start end

-- an end is not after this one
abbrev pub is_within : ℕ → Ending → Type 0
is_within length Missing = Unit {0}
is_within length (At end) = end ≤ length
is_within length AfterLimit = Unit {0}

-- where the parts of a piece end
abbrev pub ends_of : FullPiece → Ends
ends_of p = record { numbers = p.numbers_end; prerelease = p.prerelease_end; build = p.end }

-- the full piece that starts at its place
abbrev pub IsFullAt : List ℕ → FullPiece → Type 0
IsFullAt text p = IsFullPiece text p.start (ends_of p) (numbers_of p.piece)

-- each full piece that starts here is longer than a version can be
abbrev pub IsTooLongAt : List ℕ → (start : ℕ) → Type 0
IsTooLongAt text start = (ends : Ends) (numbers : List (List ℕ)) → IsFullPiece text start ends numbers
    → start + MAX_LENGTH < ends.build

-- the short pieces from `from` on that start before `to` end at this place
abbrev pub AreEndedUpTo : List ℕ → (from to end : ℕ) → Type 0
AreEndedUpTo text from to end =
    (start other : ℕ) → IsShortPiece text start other → from ≤ start → start < to → other ≡ end

-- the first of the short pieces before `from` after which none before it ends elsewhere
pub record IsLastBefore (text : List ℕ) (from : ℕ) (p : FullPiece) : Type 0 where
  pub full : IsFullAt text p
  pub short : p.end ≤ p.start + MAX_LENGTH
  pub within : p.end ≤ length text
  pub before : p.start < from
  pub ended : AreEndedUpTo text p.start from p.end
  pub first : (start end : ℕ) → IsShortPiece text start end → start < p.start → ¬ AreEndedUpTo text start from end

-- what is found before `from`: none of the short pieces there ends where the text does
pub record IsFoundBefore (text : List ℕ) (from : ℕ) (found : Option FullPiece) : Type 0 where
  pub inner : (start end : ℕ) → IsShortPiece text start end → start < from → end + 1 < length text
  pub none : IfNone found ((start end : ℕ) → IsShortPiece text start end → from ≤ start)
  pub some : IfSome found (IsLastBefore text from)
