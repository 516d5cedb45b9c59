-- What the private functions of `coerce` find in a text.
use Rattle.std.specs.Prelude.{◌≡◌, ◌+◌, ◌≤◌, ℕ, List, [], ◌∷◌, slice_index}
use Rattle.semver_texts.specs.Characters.{dot}
use Rattle.npm_semver.specs.Coerce.{IsNumberAt, IsPiece}
use Rattle.npm_semver.specs.declared.coercion.piece.Piece.{Piece}
use Rattle.npm_semver.specs.declared.coercion.piece.Piece.TheVariants.{One, Two, Three}

-- the texts of its numbers
abbrev pub numbers_of : Piece → List (List ℕ)
numbers_of (One a) = a.now ∷ []
numbers_of (Two a b) = a.now ∷ b.now ∷ []
numbers_of (Three a b c) = a.now ∷ b.now ∷ c.now ∷ []

-- the longest piece that starts here
pub record IsLongestFrom (text : List ℕ) (start end : ℕ) (numbers : List (List ℕ)) : Type 0 where
  pub piece : IsPiece text start end numbers
  pub longest : (other_end : ℕ) (others : List (List ℕ)) → IsPiece text start other_end others → other_end ≤ end

-- the longest piece that ends here
pub record IsLongestTo (text : List ℕ) (end : ℕ) (numbers : List (List ℕ)) : Type 0 where
  pub start : ℕ
  pub piece : IsPiece text start end numbers
  pub longest : (other_start : ℕ) (others : List (List ℕ)) → IsPiece text other_start end others → start ≤ other_start

-- the number that starts first from a place on
pub record IsFirstNumber (text : List ℕ) (from start end : ℕ) : Type 0 where
  pub number : IsNumberAt text start end
  pub after : from ≤ start
  pub first : (other_start other_end : ℕ) → from ≤ other_start → IsNumberAt text other_start other_end
      → start ≤ other_start

-- the number that ends last
pub record IsLastNumber (text : List ℕ) (start end : ℕ) : Type 0 where
  pub number : IsNumberAt text start end
  pub last : (other_start other_end : ℕ) → IsNumberAt text other_start other_end → other_end ≤ end

-- no number follows a dot here
abbrev pub HasNoNext : List ℕ → ℕ → Type 0
HasNoNext text place = (end : ℕ) → slice_index text place ≡ dot → ¬ IsNumberAt text (place + 1) end

-- no number is followed by a dot before this place
abbrev pub HasNoPrevious : List ℕ → ℕ → Type 0
HasNoPrevious text place = (start end : ℕ) → end + 1 ≡ place → slice_index text end ≡ dot → ¬ IsNumberAt text start end
