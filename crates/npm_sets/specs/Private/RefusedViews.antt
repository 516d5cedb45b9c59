-- What the private functions return that look for the first word that is no comparator.
use Rattle.std.specs.Prelude.{◌≡◌, ◌⊎◌, ℕ, ◌<◌, true, List, [], ◌∷◌, ◌++◌, Option, Some, None, IsOk, chars}
use Rattle.std.specs.Prelude.{encode_utf8_all}
use Rattle.std.specs.Prelude.{length}
use Rattle.std.specs.List.{AllByRecursion}
use Rattle.semver_texts.specs.Characters.{BeginsWithNo}
use Rattle.semver_sets.specs.Comparator.{Comparator}
use Rattle.npm_sets.specs.NpmMeaning.{piece_comparators, word_comparator}
use Rattle.npm_sets.specs.RefusedPlace.{IsFirstRefused, IsRefusedFrom, ends_in_space}
use Rattle.npm_sets.specs.Spaces.{plain_text}
use Rattle.npm_sets.specs.WordTexts.{Word, chunks_of, is_solid, words_of}
use Rattle.npm_sets.specs.declared.options.NpmOptions.{NpmOptions}

-- no chunk goes on from the one text into the other
abbrev pub IsBorder : List ℕ → List ℕ → Type 0
IsBorder start end = (ends_in_space start ≡ true) ⊎ BeginsWithNo is_solid end

-- a text is the first word, with the white space after it, and the rest
pub record IsReadWord (text : List ℕ) (word : Word) (rest : List ℕ) : Type 0 where
  pub part : List ℕ
  pub whole : text ≡ part ++ rest
  pub words : words_of (chunks_of part) ≡ word ∷ []
  pub border : IsBorder part rest

-- the words are comparators
abbrev pub AreComparators : NpmOptions → List Word → Type 0
AreComparators options words = AllByRecursion (λ word. IsOk (word_comparator options word)) words

-- a piece from its first word on that is no comparator
pub record IsEndOf (options : NpmOptions) (piece end : List ℕ) : Type 0 where
  pub start : List ℕ
  pub whole : piece ≡ start ++ end
  pub first : IsFirstRefused options start end

-- what is left of the words of a piece
abbrev pub IsWordsEnd : NpmOptions → List ℕ → Option (List ℕ) → Type 0
IsWordsEnd options piece None = AreComparators options (words_of (chunks_of piece))
IsWordsEnd options piece (Some end) = IsEndOf options piece end

-- the piece is read, and has a comparator
pub record IsReadPiece (options : NpmOptions) (piece : List ℕ) : Type 0 where
  pub first : Comparator
  pub others : List Comparator
  pub value_is : piece_comparators options piece ≡ Some (first ∷ others)

-- what is left of a piece
abbrev pub IsPieceEnd : NpmOptions → List ℕ → Option (List ℕ) → Type 0
IsPieceEnd options piece None = IsReadPiece options piece
IsPieceEnd options piece (Some end) = IsEndOf options piece end × (piece_comparators options piece ≡ None)

-- the text is empty, or its last byte is in ASCII
abbrev pub IsAsciiEnd : List ℕ → Type 0
IsAsciiEnd text = (text ≡ []) ⊎ ((front : List ℕ) × (last : ℕ) × (last < 128) × (text ≡ front ++ (last ∷ [])))

-- reading the text stops after so many bytes
pub record IsPlace (options : NpmOptions) (text : List ℕ) (place : ℕ) : Type 0 where
  pub before : List ℕ
  pub after : List ℕ
  pub whole : text ≡ before ++ after
  pub refused : IsRefusedFrom options before after
  pub ascii : IsAsciiEnd before
  pub place_is : place ≡ length before

-- if the first characters of a text have this length with plain spaces, so many bytes are theirs
abbrev pub IsLengthBefore : List ℕ → ℕ → ℕ → Type 0
IsLengthBefore text place offset = (before after : List ℕ) → chars text ≡ before ++ after
    → length (plain_text before) ≡ place → offset ≡ length (encode_utf8_all before)
