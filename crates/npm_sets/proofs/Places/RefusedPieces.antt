-- Whether a piece is read, from its words.
use native.Mathlib.Omega.{arith}
use Rattle.std.proofs.Common.{◌≡◌, ◌∙◌, ℕ, false, List, [], ◌∷◌, Option, Some, None, ap, sym, subst}
use Rattle.semver_texts.specs.Characters.{BeginsWith}
use Rattle.semver_texts.specs.Reading.{rest_of}
use Rattle.semver_sets.specs.Comparator.{Comparator}
use Rattle.npm_sets.specs.NpmMeaning.{comparators_of, hyphen_range, piece_comparators}
use Rattle.npm_sets.specs.Private.RefusedViews.{AreComparators, IsEndOf, IsPieceEnd, IsReadPiece, IsWordsEnd}
use Rattle.npm_sets.specs.WordTexts.{Word, chunks_of, ending_of, is_solid, is_space, lead_of, sides_of}
use Rattle.npm_sets.specs.WordTexts.{words_of}
use Rattle.npm_sets.specs.declared.options.NpmOptions.{NpmOptions}
use Rattle.npm_sets.proofs.Chunks.ChunkLemmas.{chunks-skip}
use Rattle.npm_sets.proofs.Chunks.Joins.{from-some, words-first}
use Rattle.npm_sets.proofs.Chunks.SideLemmas.{chunks-some}
use Rattle.npm_sets.proofs.Pieces.PieceReading.{piece-empty, piece-words}
use Rattle.npm_sets.proofs.Pieces.WordReading.{text_comparators}
use Rattle.npm_sets.proofs.Places.RefusedWords.{place-words, some-read, words-refused}

-- a chunk gives a word
pub words-some : (chunk : List ℕ) (chunks : List (List ℕ))
    → (word : Word) × (words : List Word) × (words_of (chunk ∷ chunks) ≡ word ∷ words)
words-some chunk chunks =
    let from = from-some (lead_of chunk) (ending_of chunk) chunks in
    (from.0, from.1, words-first chunk chunks ∙ from.2)

module _ (options : NpmOptions) (piece text : List ℕ) (skipped : text ≡ rest_of is_space piece) where
  same-chunks : chunks_of piece ≡ chunks_of text
  same-chunks = sym (chunks-skip piece) ∙ ap chunks_of (sym skipped)

  -- nothing
  pub end-nothing : text ≡ [] → IsReadPiece options piece
  end-nothing none = grind (arith, piece-empty options piece text skipped none)

  -- a hyphen range
  pub end-hyphen : BeginsWith is_solid text → (c : Comparator)
      → Some c ≡ hyphen_range options (sides_of (chunks_of text)) → IsReadPiece options piece
  end-hyphen solid c is = grind (arith, piece-words options piece text skipped solid, text_comparators options text)

  -- words
  value : BeginsWith is_solid text → None ≡ hyphen_range options (sides_of (chunks_of text))
      → piece_comparators options piece ≡ comparators_of options (words_of (chunks_of piece))
  value solid is =
      grind (arith, piece-words options piece text skipped solid, text_comparators options text, same-chunks)

  words-piece : BeginsWith is_solid text → None ≡ hyphen_range options (sides_of (chunks_of text))
      → AreComparators options (words_of (chunks_of piece)) → IsReadPiece options piece
  words-piece solid is all =
      let some = chunks-some text solid in
      let word = words-some some.0 some.1 in
      let words : words_of (chunks_of piece) ≡ word.0 ∷ word.1 =
      ap words_of (same-chunks ∙ some.2) ∙ word.2 in
      let read = some-read options word.0 word.1 (subst (AreComparators options) words all) in
      record {
        first = read.0;
        others = read.1;
        value_is = value solid is ∙ ap (comparators_of options) words ∙ read.2;
      }

  refused-piece : options.loose ≡ false → BeginsWith is_solid text
      → None ≡ hyphen_range options (sides_of (chunks_of text)) → (end : List ℕ) → IsEndOf options piece end
      → piece_comparators options piece ≡ None
  refused-piece strict solid is end of =
      grind (
        arith,
        value solid is,
        place-words options of.start end of.first,
        words-refused options (words_of (chunks_of of.start)) of.first.word of.first.others strict of.first.refused,
      )

  pub end-words : options.loose ≡ false → BeginsWith is_solid text
      → None ≡ hyphen_range options (sides_of (chunks_of text)) → (end : Option (List ℕ))
      → IsWordsEnd options piece end → IsPieceEnd options piece end
  end-words h1 h2 h3 end h4 = grind (arith, words-piece, refused-piece)
