-- What the private functions return that read a word of several chunks.
use Rattle.std.specs.Prelude.{◌≡◌, ℕ, Bool, true, List, [], ◌∷◌, ◌++◌, not}
use Rattle.semver_texts.specs.Characters.{BeginsWith, BeginsWithNo}
use Rattle.semver_texts.specs.Reading.{prefix_of, rest_of}
use Rattle.npm_sets.specs.Private.RefusedViews.{IsBorder}
use Rattle.npm_sets.specs.WordTexts.{Word, chunks_of, is_joined, is_solid, is_space, words_from, words_of}
use Rattle.npm_sets.specs.declared.words.Ending.{Ending}

-- `true` if a word with this ending ends before these chunks
abbrev pub ends_word : Ending → List (List ℕ) → Bool
ends_word ending [] = true
ends_word ending (chunk ∷ chunks) = not (is_joined ending chunk)

-- the first chunk of a text goes on with the word before it
pub record IsNextChunk (ending : Ending) (text chunk rest : List ℕ) : Type 0 where
  pub solid : BeginsWith is_solid text
  pub first : chunk ≡ prefix_of is_solid text
  pub after : rest ≡ rest_of is_space (rest_of is_solid text)
  pub joined : is_joined ending chunk ≡ true

-- the rest of a word is a part of the text, with the white space after it, and a rest follows
pub record IsReadOn (word : Word) (ending : Ending) (text : List ℕ) (whole_word : Word) (rest : List ℕ) : Type 0 where
  pub part : List ℕ
  pub whole : text ≡ part ++ rest
  pub border : IsBorder part rest
  pub solid : BeginsWithNo is_space rest
  pub alone : words_from word ending (chunks_of part) ≡ whole_word ∷ []
  pub words : words_from word ending (chunks_of text) ≡ whole_word ∷ words_of (chunks_of rest)
