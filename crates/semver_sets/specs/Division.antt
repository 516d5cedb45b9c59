-- How a range text is divided: npm's "Range Grammar", in its loose form.
-- See docs/DECISIONS.md, "A word is defined by its text, not by how it is found".
use Rattle.std.specs.Prelude.{◌≡◌, ℕ, not, List, [], ◌∷◌, ◌++◌, Option, None}
use Rattle.std.specs.List.{filter_map}
use Rattle.semver_sets.specs.CaretRanges.{IsCaretText}
use Rattle.semver_texts.specs.Characters.{IsCleanEnd, AreAll, AreBlanks, BeginsWithNo, bar, is_blank}
use Rattle.semver_sets.specs.Comparator.{Comparator}
use Rattle.semver_sets.specs.HyphenRanges.{IsHyphenText}
use Rattle.semver_sets.specs.Operators.{IsOperatorText, IsPlainText}
use Rattle.semver_sets.specs.TildeRanges.{IsTildeText}

-- the text of a word of any kind but a hyphen range, with the comparator that it gives, if it gives one
pub data IsSimpleText (text : List ℕ) (comparator : Option Comparator) : Type 0 where
  by_operator : IsOperatorText text comparator → IsSimpleText text comparator
  plain : IsPlainText text comparator → IsSimpleText text comparator
  by_tilde : IsTildeText text comparator → IsSimpleText text comparator
  by_caret : IsCaretText text comparator → IsSimpleText text comparator

-- no prefix that ends before a clean end is a text of this kind
abbrev pub NoneAt : (List ℕ → Option Comparator → Type 0) → List ℕ → Type 0
NoneAt IsText text = (prefix rest : List ℕ) (comparator : Option Comparator)
    → text ≡ prefix ++ rest → IsCleanEnd rest → ¬ IsText prefix comparator

-- The word that a text begins with, and the rest, which begins at a clean end. It is a hyphen range if there is one,
-- else a word of another kind if there is one. Else it is everything before the next blank, as `foo`, and is ignored.
pub data IsWord (word rest : List ℕ) (comparator : Option Comparator) : Type 0 where
  hyphen_range : IsHyphenText word comparator → IsCleanEnd rest → IsWord word rest comparator
  simple : NoneAt IsHyphenText (word ++ rest) → IsSimpleText word comparator → IsCleanEnd rest
      → IsWord word rest comparator
  ignored : NoneAt IsHyphenText (word ++ rest) → NoneAt IsSimpleText (word ++ rest)
      → AreAll (λ b. not (is_blank b)) word → IsCleanEnd rest → comparator ≡ None → IsWord word rest comparator

-- a first word, all blanks after it, and the rest
pub record HasFirstWord (text : List ℕ) (comparator : Option Comparator) (others : List ℕ) : Type 0 where
  pub word : List ℕ
  pub blanks : List ℕ
  pub whole : text ≡ word ++ (blanks ++ others)
  pub first : IsWord word (blanks ++ others) comparator
  pub blank : AreBlanks blanks
  pub blanks_end : BeginsWithNo is_blank others

-- the text is one word; or a first word, all blanks after it, and a text of the other words: `>=1.2.3 <2.0.0`
abbrev pub IsDivision : List ℕ → List (Option Comparator) → Type 0
IsDivision text [] = ⊥
IsDivision text (w ∷ []) = IsWord text [] w
IsDivision text (w ∷ x ∷ words) = (others : List ℕ) × HasFirstWord text w others × IsDivision others (x ∷ words)

-- the comparators that the words give
abbrev pub comparators_of : List (Option Comparator) → List Comparator
comparators_of words = filter_map (λ w. w) words

-- the comparators of one alternative: none for `foo`, and none for the empty text
pub record IsAlternative (text : List ℕ) (comparators : List Comparator) : Type 0 where
  pub words : List (Option Comparator)
  pub divided : IsDivision text words
  pub kept : comparators ≡ comparators_of words

-- ---- the alternatives of a range

-- the text contains `||`
abbrev pub HasBars : List ℕ → Type 0
HasBars text = (before after : List ℕ) × (text ≡ before ++ (bar ∷ bar ∷ after))

-- the last character of the text is `|`
abbrev pub EndsInBar : List ℕ → Type 0
EndsInBar text = (before : List ℕ) × (text ≡ before ++ (bar ∷ []))

-- the first piece, `||` and the rest: `1` and `|2` of `1|||2`
pub record HasFirstPiece (text piece others : List ℕ) : Type 0 where
  pub whole : text ≡ piece ++ (bar ∷ bar ∷ others)
  pub no_bars : ¬ HasBars piece
  pub ends_in_none : ¬ EndsInBar piece

-- the pieces between the `||` of a text
abbrev pub IsPieces : List ℕ → List (List ℕ) → Type 0
IsPieces text [] = ⊥
IsPieces text (piece ∷ []) = (text ≡ piece) × ¬ HasBars text
IsPieces text (piece ∷ next ∷ pieces) =
    (others : List ℕ) × HasFirstPiece text piece others × IsPieces others (next ∷ pieces)

-- an alternative after the first is read without its leading blanks: `- 10` of `1 || - 10`
pub record IsLaterAlternative (piece : List ℕ) (comparators : List Comparator) : Type 0 where
  pub blanks : List ℕ
  pub others : List ℕ
  pub whole : piece ≡ blanks ++ others
  pub blank : AreAll is_blank blanks
  pub blanks_end : BeginsWithNo is_blank others
  pub alternative : IsAlternative others comparators

-- each piece after the first is read as one alternative
abbrev pub AreLaterAlternatives : List (List ℕ) → List (List Comparator) → Type 0
AreLaterAlternatives [] [] = Unit {0}
AreLaterAlternatives [] (a ∷ alternatives) = ⊥
AreLaterAlternatives (piece ∷ pieces) [] = ⊥
AreLaterAlternatives (piece ∷ pieces) (a ∷ alternatives) =
    IsLaterAlternative piece a × AreLaterAlternatives pieces alternatives

-- each piece is read as one alternative, the first with its leading blanks
abbrev pub AreAlternatives : List (List ℕ) → List (List Comparator) → Type 0
AreAlternatives [] alternatives = ⊥
AreAlternatives (piece ∷ pieces) [] = ⊥
AreAlternatives (piece ∷ pieces) (a ∷ alternatives) = IsAlternative piece a × AreLaterAlternatives pieces alternatives

-- the alternatives of a range text, each as the list of its comparators
pub record IsWritten (text : List ℕ) (alternatives : List (List Comparator)) : Type 0 where
  pub pieces : List (List ℕ)
  pub divided : IsPieces text pieces
  pub read : AreAlternatives pieces alternatives
