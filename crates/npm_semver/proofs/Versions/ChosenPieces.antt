-- The chosen piece: it is found from a number at its end, and there is only one.
use Rattle.std.proofs.Common.{◌≡◌, ℕ, Bool, List, Option, refl}
use Rattle.std.proofs.Common.{arith}
use Rattle.std.specs.Prelude.{IfNone}
use Rattle.npm_semver.specs.Coerce.{IsChosen, IsCoerced, IsFirstPiece, IsLastPiece, IsPiece, IsReleaseOf}
use Rattle.npm_semver.specs.Coerce.{one, two, three}
use Rattle.npm_semver.specs.Private.PieceViews.{IsFirstNumber, IsLastNumber, IsLongestFrom, IsLongestTo}
use Rattle.semver_texts.specs.Version.{VersionValue}
use Rattle.npm_semver.proofs.Versions.Pieces.{first_of, last_of, next_end, same_end}

-- ---- from a number at its end

pub first_found : (text : List ℕ) (start first end : ℕ) (numbers : List (List ℕ)) → IsFirstNumber text 0 start first
    → IsLongestFrom text start end numbers → (from to : ℕ) × IsFirstPiece text from to numbers
first_found text start first end numbers number piece = (
  start,
  end,
  record {
    piece = piece.piece;
    first = λ from to others h.
        number.first from (first_of text from to others h).0 (omega arith) (first_of text from to others h).1;
    longest = piece.longest;
  },
)

pub last_found : (text : List ℕ) (start end : ℕ) (numbers : List (List ℕ)) → IsLastNumber text start end
    → IsLongestTo text end numbers → (from to : ℕ) × IsLastPiece text from to numbers
last_found text start end numbers number piece = (
  piece.start,
  end,
  record {
    piece = piece.piece;
    last = λ from to others h. number.last (last_of text from to others h).0 to (last_of text from to others h).1;
    longest = piece.longest;
  },
)

-- ---- there is only one

-- the ends decide the numbers
pub same_numbers : (text : List ℕ) (start end : ℕ) (numbers others : List (List ℕ)) → IsPiece text start end numbers
    → IsPiece text start end others → others ≡ numbers
same_numbers text start end _ _ (one _ _ h) (one _ _ k) = refl
same_numbers text start end _ _ (one _ _ h) (two _ other _ k point m) = grind (arith, same_end)
same_numbers text start end _ _ (one _ _ h) (three _ other next _ k point m dash l) = grind (arith, same_end)
same_numbers text start end _ _ (two _ first _ h point g) (one _ _ k) = grind (arith, same_end)
same_numbers text start end _ _ (two _ first _ h point g) (two _ other _ k dash m) = grind (arith, same_end)
same_numbers text start end _ _ (two _ first _ h point g) (three _ other next _ k dash m last l) =
    absurd (omega (arith, next_end text start first other end next h k g m, l.some))
same_numbers text start end _ _ (three _ first second _ h point g dash f) (one _ _ k) = grind (arith, same_end)
same_numbers text start end _ _ (three _ first second _ h point g dash f) (two _ other _ k last m) =
    absurd (omega (arith, next_end text start other first end second k h m g, f.some))
same_numbers text start end _ _ (three _ first second _ h point g dash f) (three _ other next _ k last m mark l) =
    grind (arith, same_end, next_end)

first_same : (text : List ℕ) (start end from to : ℕ) (numbers others : List (List ℕ))
    → IsFirstPiece text start end numbers → IsFirstPiece text from to others → others ≡ numbers
first_same text start end from to numbers others h g = grind (arith, same_numbers)

last_same : (text : List ℕ) (start end from to : ℕ) (numbers others : List (List ℕ))
    → IsLastPiece text start end numbers → IsLastPiece text from to others → others ≡ numbers
last_same text start end from to numbers others h g = grind (arith, same_numbers)

-- a text whose chosen piece has no release has no version
pub not_coerced : (rtl : Bool) (text : List ℕ) (start end : ℕ) (numbers : List (List ℕ)) (r : Option VersionValue)
    → IsChosen rtl text start end numbers → IfNone r ((v : VersionValue) → ¬ IsReleaseOf numbers v)
    → IfNone r ((v : VersionValue) → ¬ IsCoerced rtl text v)
not_coerced rtl text start end numbers r chosen none = grind (arith, first_same, last_same)

pub none_coerced : (rtl : Bool) (text : List ℕ)
    → ((start end : ℕ) (numbers : List (List ℕ)) → ¬ IsPiece text start end numbers) → (v : VersionValue)
    → ¬ IsCoerced rtl text v
none_coerced rtl text none v h = grind arith
