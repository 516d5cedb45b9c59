-- The longest piece that ends with a number.
use Rattle.std.proofs.Common.{◌≡◌, ◌+◌, ◌≤◌, ℕ, List, [], ◌∷◌, arith}
use Rattle.std.specs.Prelude.{slice_index, slice_range}
use Rattle.semver_texts.specs.Characters.{dot}
use Rattle.npm_semver.specs.Coerce.{IsNumberAt, IsPiece, one, two, three}
use Rattle.npm_semver.specs.Private.PieceViews.{HasNoPrevious, IsLongestTo}
use Rattle.npm_semver.proofs.Versions.Pieces.{previous_start, same_start}

-- ---- the pieces, where a number starts after a dot

two_at : (text : List ℕ) (start first third end : ℕ) → first + 1 ≡ third → IsNumberAt text start first
    → slice_index text first ≡ dot → IsNumberAt text third end
    → IsPiece text start end (slice_range text start first ∷ slice_range text third end ∷ [])
two_at text start first third end e h point g = grind (arith, two)

three_at : (text : List ℕ) (start first second middle third end : ℕ) → first + 1 ≡ second → middle + 1 ≡ third
    → IsNumberAt text start first → slice_index text first ≡ dot → IsNumberAt text second middle
    → slice_index text middle ≡ dot → IsNumberAt text third end
    → IsPiece text start end (slice_range text start first
    ∷ slice_range text second middle
    ∷ slice_range text third end
    ∷ [])
three_at text start first second middle third end e f h point g dash k = grind (arith, three)

-- ---- the longest ones

none_before : (text : List ℕ) (start first third other end : ℕ) → IsNumberAt text third end
    → IsNumberAt text other end → HasNoPrevious text third → first + 1 ≡ other → slice_index text first ≡ dot
    → IsNumberAt text start first → ⊥
none_before text start first third other end h g none e point previous =
    none start first (omega (arith, e, same_start text third other end h g)) point previous

one_longest : (text : List ℕ) (third end : ℕ) → IsNumberAt text third end → HasNoPrevious text third
    → (start : ℕ) (numbers : List (List ℕ)) → IsPiece text start end numbers → third ≤ start
one_longest text third end h none start _ (one _ _ k) = omega (arith, same_start text third start end h k)
one_longest text third end h none start _ (two _ first _ k point m) =
    absurd (none_before text start first third (first + 1) end h m none (omega arith) point k)
one_longest text third end h none start _ (three _ first second _ k point m dash l) =
    absurd (none_before text (first + 1) second third (second + 1) end h l none (omega arith) dash m)

pub one_to : (text : List ℕ) (third end : ℕ) → IsNumberAt text third end → HasNoPrevious text third
    → IsLongestTo text end (slice_range text third end ∷ [])
one_to text third end h none =
    record { start = third; piece = one third end h; longest = one_longest text third end h none }

two_longest : (text : List ℕ) (second middle third end : ℕ) → middle + 1 ≡ third → IsNumberAt text second middle
    → IsNumberAt text third end → HasNoPrevious text second → (start : ℕ) (numbers : List (List ℕ))
    → IsPiece text start end numbers → second ≤ start
two_longest text second middle third end e g h none start _ (one _ _ k) = grind (arith, same_start)
two_longest text second middle third end e g h none start _ (two _ first _ k point m) =
    omega (arith, previous_start text second start middle first third (first + 1) end e (omega arith) h m g k)
two_longest text second middle third end e g h none start _ (three _ first last _ k point m dash l) =
    absurd (none start first
    (previous_start text second (first + 1) middle last third (last + 1) end e (omega arith) h l g m) point k)

pub two_to : (text : List ℕ) (second middle third end : ℕ) → middle + 1 ≡ third → IsNumberAt text second middle
    → slice_index text middle ≡ dot → IsNumberAt text third end → HasNoPrevious text second
    → IsLongestTo text end (slice_range text second middle ∷ slice_range text third end ∷ [])
two_to text second middle third end e g point h none =
    grind (arith, two_at text second middle third end e g point h, two_longest text second middle third end e g h none)

three_longest : (text : List ℕ) (begin first second middle third end : ℕ) → first + 1 ≡ second → middle + 1 ≡ third
    → IsNumberAt text begin first → IsNumberAt text second middle → IsNumberAt text third end
    → (start : ℕ) (numbers : List (List ℕ)) → IsPiece text start end numbers → begin ≤ start
three_longest text begin first second middle third end d e f g h start _ (one _ _ k) = grind (arith, same_start)
three_longest text begin first second middle third end d e f g h start _ (two _ other _ k point m) =
    grind (arith, previous_start text second start middle other third (other + 1) end e)
three_longest text begin first second middle third end d e f g h start _ (three _ other last _ k point m dash l) =
    grind (
      arith,
      same_start text third (last + 1) end h l,
      previous_start text begin start first other second (other + 1) middle d,
    )

pub three_to : (text : List ℕ) (begin first second middle third end : ℕ) → first + 1 ≡ second → middle + 1 ≡ third
    → IsNumberAt text begin first → slice_index text first ≡ dot → IsNumberAt text second middle
    → slice_index text middle ≡ dot → IsNumberAt text third end
    → IsLongestTo text end (slice_range text begin first
    ∷ slice_range text second middle
    ∷ slice_range text third end
    ∷ [])
three_to text begin first second middle third end d e f point g dash h = grind (
  arith,
  three_at text begin first second middle third end d e f point g dash h,
  three_longest text begin first second middle third end d e f g h,
)
