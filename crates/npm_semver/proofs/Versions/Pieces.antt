-- The pieces of a text that look like a version: by their ends a piece and its numbers are found from either side.
use Rattle.std.proofs.Common.{◌≡◌, ◌+◌, ◌-◌, ◌<◌, ◌≤◌, ◌⊎◌, ℕ, List, [], ◌∷◌, arith}
use Rattle.std.proofs.lemmas.Bool.{ltb-false, ltb-true}
use Rattle.std.specs.Prelude.{slice_index, slice_range}
use Rattle.semver_texts.specs.Characters.{dot}
use Rattle.npm_semver.specs.Coerce.{IsNumberAt, IsPiece, one, two, three}
use Rattle.npm_semver.specs.Private.PieceViews.{HasNoNext, IsLongestFrom}

pub below_or_not : (a b : ℕ) → (a < b) ⊎ (b ≤ a)
below_or_not a b = grind (arith, ltb-true, ltb-false)

-- ---- a number is alone, so either end decides the other

pub same_end : (text : List ℕ) (start end other : ℕ) → IsNumberAt text start end → IsNumberAt text start other
    → other ≡ end
same_end text start end other h g = grind arith

start_below : (text : List ℕ) (start other end : ℕ) → IsNumberAt text start end → IsNumberAt text other end
    → other ≤ start
start_below text start other end h g = grind (arith, h.digits (other - 1), g.before (other - 1))

pub same_start : (text : List ℕ) (start other end : ℕ) → IsNumberAt text start end → IsNumberAt text other end
    → other ≡ start
same_start text start other end h g =
    omega (arith, start_below text start other end h g, start_below text other start end g h)

-- the same of the number after the dot
pub next_end : (text : List ℕ) (start first other end last : ℕ) → IsNumberAt text start first
    → IsNumberAt text start other → IsNumberAt text (first + 1) end → IsNumberAt text (other + 1) last → last ≡ end
next_end text start first other end last h g next after = grind (arith, same_end)

-- and of the one before it
pub previous_start : (text : List ℕ) (start other first last third fourth end : ℕ) → first + 1 ≡ third
    → last + 1 ≡ fourth → IsNumberAt text third end → IsNumberAt text fourth end → IsNumberAt text start first
    → IsNumberAt text other last → other ≡ start
previous_start text start other first last third fourth end e f h g before there =
    grind (arith, same_start text third fourth end h g, same_start text start other first before)

-- ---- the numbers at both ends of a piece

pub first_of : (text : List ℕ) (start end : ℕ) (numbers : List (List ℕ)) → IsPiece text start end numbers
    → (first : ℕ) × IsNumberAt text start first
first_of text start end numbers h5 = grind arith

pub last_of : (text : List ℕ) (start end : ℕ) (numbers : List (List ℕ)) → IsPiece text start end numbers
    → (last : ℕ) × IsNumberAt text last end
last_of text start end numbers h5 = grind arith

-- ---- from the left: the longest piece that starts with a number

none_after : (text : List ℕ) (start first other end : ℕ) → IsNumberAt text start first → IsNumberAt text start other
    → HasNoNext text first → slice_index text other ≡ dot → IsNumberAt text (other + 1) end → ⊥
none_after text start first other end h g none point next = grind (arith, same_end)

-- the second number is where it was
second_there : (text : List ℕ) (start first other end : ℕ) → IsNumberAt text start first
    → IsNumberAt text start other → IsNumberAt text (other + 1) end → IsNumberAt text (first + 1) end
second_there text start first other end h g next = grind arith

one_longest : (text : List ℕ) (start first : ℕ) → IsNumberAt text start first → HasNoNext text first
    → (end : ℕ) (numbers : List (List ℕ)) → IsPiece text start end numbers → end ≤ first
one_longest text start first h none end numbers h8 = grind arith

pub one_from : (text : List ℕ) (start first : ℕ) → IsNumberAt text start first → HasNoNext text first
    → IsLongestFrom text start first (slice_range text start first ∷ [])
one_from text start first h none = grind (arith, one, one_longest)

two_longest : (text : List ℕ) (start first second : ℕ) → IsNumberAt text start first
    → IsNumberAt text (first + 1) second → HasNoNext text second → (end : ℕ) (numbers : List (List ℕ))
    → IsPiece text start end numbers → end ≤ second
two_longest text start first second h g none end _ (one _ _ k) = grind (arith, same_end)
two_longest text start first second h g none end _ (two _ other _ k point m) = grind (arith, next_end)
two_longest text start first second h g none end _ (three _ other next _ k point m dash l) =
    absurd (none_after text (first + 1) second next end g (second_there text start first other next h k m) none dash l)

pub two_from : (text : List ℕ) (start first second : ℕ) → IsNumberAt text start first
    → slice_index text first ≡ dot → IsNumberAt text (first + 1) second → HasNoNext text second
    → IsLongestFrom text start second (slice_range text start first ∷ slice_range text (first + 1) second ∷ [])
two_from text start first second h point g none = grind (arith, two, two_longest)

three_longest : (text : List ℕ) (start first second third : ℕ) → IsNumberAt text start first
    → IsNumberAt text (first + 1) second → IsNumberAt text (second + 1) third → (end : ℕ) (numbers : List (List ℕ))
    → IsPiece text start end numbers → end ≤ third
three_longest text start first second third h g f end numbers h11 = grind arith

pub three_from : (text : List ℕ) (start first second third : ℕ) → IsNumberAt text start first
    → slice_index text first ≡ dot → IsNumberAt text (first + 1) second → slice_index text second ≡ dot
    → IsNumberAt text (second + 1) third
    → IsLongestFrom text start third (slice_range text start first
    ∷ slice_range text (first + 1) second
    ∷ slice_range text (second + 1) third
    ∷ [])
three_from text start first second third h point g dash f = grind (arith, three, three_longest)
