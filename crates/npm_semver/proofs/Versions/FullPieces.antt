-- A piece with its prerelease and its build: its start decides all of it.
use Rattle.std.proofs.Common.{◌≡◌, ◌+◌, ◌<◌, ◌≤◌, ◌⊎◌, ℕ, List, Option, Some, None, arith}
use Rattle.std.specs.Prelude.{IfNone, IfSome}
use Rattle.semver_texts.specs.declared.TheConstants.{MAX_LENGTH}
use Rattle.npm_semver.specs.Coerce.{IsNumberAt, one}
use Rattle.npm_semver.specs.CoerceWithPrerelease.{Ends, IsFirstFull, IsFullPiece, IsShortPiece}
use Rattle.npm_semver.specs.Private.ExtraViews.{IsFullAt, IsLonger, IsLongestOf, IsMarkedOf, IsTooLongAt, ends_of}
use Rattle.npm_semver.specs.Private.PieceViews.{IsFirstNumber, IsLongestFrom, numbers_of}
use Rattle.npm_semver.specs.declared.coercion.extras.Extra.{Extra}
use Rattle.npm_semver.specs.declared.coercion.extras.Extra.TheVariants.{Build, Prerelease}
use Rattle.npm_semver.specs.declared.coercion.full.FullPiece.{FullPiece}
use Rattle.npm_semver.proofs.Versions.Extras.{list_some}
use Rattle.npm_semver.proofs.Versions.Pieces.{first_of}

-- ---- a prerelease or a build

from_there : (extra : Extra) (text : List ℕ) (start end : ℕ) → (end ≡ start) ⊎ IsMarkedOf extra text start end
    → start ≤ end
from_there extra text start end h5 = grind (arith, list_some)

pub longest_from : (extra : Extra) (text : List ℕ) (start end : ℕ) → IsLongestOf extra text start end → start ≤ end
longest_from extra text start end h = from_there extra text start end h.there

below_longest : (extra : Extra) (text : List ℕ) (start end other : ℕ) → IsLongestOf extra text start end
    → (other ≡ start) ⊎ IsMarkedOf extra text start other → other ≤ end
below_longest extra text start end other h h7 = grind (arith, longest_from)

one_longest : (extra : Extra) (text : List ℕ) (start end other : ℕ) → IsLongestOf extra text start end
    → IsLongestOf extra text start other → other ≡ end
one_longest extra text start end other h g =
    omega (
      arith,
      below_longest extra text start end other h g.there,
      below_longest extra text start other end g
          h.there,
    )

-- ---- all of it

-- the places where the parts of two of them end
pub record AreSameEnds (ends other : Ends) : Type 0 where
  pub numbers : other.numbers ≡ ends.numbers
  pub prerelease : other.prerelease ≡ ends.prerelease
  pub build : other.build ≡ ends.build

pub full_ends : (text : List ℕ) (start : ℕ) (ends other : Ends) (numbers others : List (List ℕ))
    → IsFullPiece text start ends numbers → IsFullPiece text start other others → AreSameEnds ends other
full_ends text start ends other numbers others h g = grind (
  arith,
  one_longest Prerelease text ends.numbers ends.prerelease other.prerelease h.prerelease,
  one_longest Build text ends.prerelease ends.build other.build h.build,
)

-- ---- one that is too long

-- its prerelease ends after the limit
pub prerelease_longer : (text : List ℕ) (start end : ℕ) (numbers : List (List ℕ))
    → IsLongestFrom text start end numbers → IsLonger Prerelease text end (start + MAX_LENGTH) → IsTooLongAt text start
prerelease_longer text start end numbers h longer ends others g =
    grind (arith, longest_from Build text ends.prerelease ends.build g.build)

-- its build does
pub build_longer : (text : List ℕ) (start end middle : ℕ) (numbers : List (List ℕ))
    → IsLongestFrom text start end numbers → IsLongestOf Prerelease text end middle
    → IsLonger Build text middle (start + MAX_LENGTH) → IsTooLongAt text start
build_longer text start end middle numbers h extra longer ends others g =
    grind (arith, one_longest Prerelease text end ends.prerelease middle)

-- ---- a short one

pub short_same : (text : List ℕ) (start end other : ℕ) → IsShortPiece text start end → IsShortPiece text start other
    → other ≡ end
short_same text start end other h g = grind (arith, full_ends)

pub short_first : (text : List ℕ) (start end : ℕ) → IsShortPiece text start end
    → (first : ℕ) × IsNumberAt text start first
short_first text start end h = first_of text start h.ends.numbers h.numbers h.full.piece

pub short_full : (text : List ℕ) (p : FullPiece) → IsFullAt text p → p.end ≤ p.start + MAX_LENGTH
    → IsShortPiece text p.start p.end
short_full text p full short = grind arith

-- ---- the one that starts first

pub first_some : (text : List ℕ) (start first : ℕ) (r : Option FullPiece) → IsFirstNumber text 0 start first
    → IfSome r (IsFullAt text) → IfSome r (λ p. p.start ≡ start)
    → IfSome r (λ p. IsFirstFull text p.start (ends_of p) (numbers_of p.piece))
first_some text start first None number full same = tt
first_some text start first (Some p) number full same = record {
  full = full;
  first = λ from to others h.
      grind (arith, number.first from (first_of text from to others h).0, first_of text from to others h);
}

-- if it is too long, so is each that starts first
pub first_none : (text : List ℕ) (start first : ℕ) (r : Option FullPiece) → IsFirstNumber text 0 start first
    → IfNone r (IsTooLongAt text start)
    → IfNone r ((other : ℕ) (ends : Ends) (numbers : List (List ℕ)) → IsFirstFull text other ends numbers
    → other + MAX_LENGTH < ends.build)
first_none text start first (Some p) number long = tt
first_none text start first None number long = λ other ends numbers h. grind (
  arith,
  h.first start first _ (one start first number.number),
  first_of text other ends.numbers numbers h.full.piece,
  number.first other (first_of text other ends.numbers numbers h.full.piece).0,
)
