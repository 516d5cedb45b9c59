-- A piece whose first character begins no comparator: its first word is none, so strict form refuses it.
use native.Mathlib.Omega.{arith}
use Rattle.std.proofs.Common.{◌≡◌, ◌∙◌, ℕ, Bool, false, List, [], ◌∷◌, Option, Some, None, IsErr, ap, inl, inr, refl}
use Rattle.std.proofs.Common.{subst, sym}
use Rattle.std.specs.Prelude.{◌==◌}
use Rattle.std.proofs.lemmas.Bool.{cases_Bool}
use Rattle.std.proofs.lemmas.Bool.Decides.{nat_tests}
use Rattle.semver_texts.specs.Characters.{BeginsWith, caret, greater_sign, tilde}
use Rattle.semver_texts.specs.Reading.{begins, missing, prefix_of, rest_of}
use Rattle.semver_sets.specs.Comparator.{Comparator}
use Rattle.npm_sets.specs.NpmMeaning.{alone_or, comparators_of, hyphen_range, piece_comparators, word_comparator}
use Rattle.npm_sets.specs.PartialTexts.{partial_of}
use Rattle.npm_sets.specs.Private.ReadViews.{begins_comparator}
use Rattle.npm_sets.specs.Private.RefusedViews.{IsPieceEnd}
use Rattle.npm_sets.specs.WordTexts.{Word, begins_component, chunks_of, ended, ending_of, is_joined, is_mark, is_solid}
use Rattle.npm_sets.specs.WordTexts.{is_space, lead_of, sides_of, word_and, words_from, words_of}
use Rattle.npm_sets.specs.declared.options.NpmOptions.{NpmOptions}
use Rattle.npm_sets.specs.declared.words.Ending.{Ending}
use Rattle.npm_sets.specs.declared.words.Ending.TheVariants.{Comparison, NoOperator, Sign, TildeGreater}
use Rattle.npm_sets.specs.declared.words.Lead.TheVariants.{Nothing}
use Rattle.npm_sets.proofs.Chunks.ChunkLemmas.{chunk-solid, not-true}
use Rattle.npm_sets.proofs.Chunks.Joins.{from-apart, from-end, from-joined, words-first}
use Rattle.npm_sets.proofs.Pieces.PieceReading.{piece-words}
use Rattle.npm_sets.proofs.Pieces.SignPieces.{no-partial}
use Rattle.npm_sets.proofs.Pieces.WordReading.{text_comparators}
use Rattle.npm_sets.proofs.Places.RefusedWords.{passed-none, passed-refused, words-refused}

-- ---- the character

no-mark : (b : ℕ) → begins_comparator b ≡ false → is_mark b ≡ false
no-mark b h = grind (arith, nat_tests)

no-component : (b : ℕ) → begins_comparator b ≡ false → begins_component b ≡ false
no-component b h = grind (arith, nat_tests)

no-operator : (b : ℕ) → begins_comparator b ≡ false
    → ((b == greater_sign) ≡ false) × ((b == 60) ≡ false) × ((b == 61) ≡ false) × ((b == tilde) ≡ false)
    × ((b == caret) ≡ false)
no-operator b h = grind (arith, nat_tests)

no-lead : (b : ℕ) (rest : List ℕ) → begins_comparator b ≡ false → lead_of (b ∷ rest) ≡ (Nothing, b ∷ rest)
no-lead b rest h =
    let o = no-operator b h in
    rw (o.0, o.1, o.2, o.3, o.4) refl

same-word : (b : ℕ) (rest chunk : List ℕ) → begins_comparator b ≡ false
    → word_and (Nothing, b ∷ rest) chunk ≡ (Nothing, b ∷ rest)
same-word b rest chunk h = rw (no-operator b h).2 refl

unknown-no_partial : (loose : Bool) (b : ℕ) (rest : List ℕ) → begins_comparator b ≡ false
    → partial_of loose (b ∷ rest) ≡ missing (b ∷ rest)
unknown-no_partial loose b rest h = no-partial loose b rest (no-mark b h) (no-component b h)

-- ---- the first word

-- the first of these words is no comparator
pub record BeginUnknown (options : NpmOptions) (words : List Word) : Type 0 where
  pub word : Word
  pub others : List Word
  pub words_are : words ≡ word ∷ others
  pub refused : IsErr (word_comparator options word)

unknown : (options : NpmOptions) (b : ℕ) (rest : List ℕ) → begins_comparator b ≡ false
    → IsErr (word_comparator options (Nothing, b ∷ rest))
unknown options b rest h = rw (unknown-no_partial options.loose b rest h) refl

no-operand : (options : NpmOptions) → IsErr (word_comparator options (Nothing, []))
unfolding partial_of rest_of
no-operand options = refl

-- with or without its operand
ended-unknown : (options : NpmOptions) (b : ℕ) (rest : List ℕ) (ending : Ending) → begins_comparator b ≡ false
    → IsErr (word_comparator options (ended (Nothing, b ∷ rest) ending))
ended-unknown options b rest NoOperator h = unknown options b rest h
ended-unknown options b rest Comparison h = no-operand options
ended-unknown options b rest TildeGreater h = no-operand options
ended-unknown options b rest Sign h = no-operand options

from-unknown : (options : NpmOptions) (b : ℕ) (rest : List ℕ) (ending : Ending) (chunks : List (List ℕ))
    → begins_comparator b ≡ false → BeginUnknown options (words_from (Nothing, b ∷ rest) ending chunks)
from-unknown options b rest ending [] h = record {
  word = ended (Nothing, b ∷ rest) ending;
  others = [];
  words_are = from-end (Nothing, b ∷ rest) ending;
  refused = ended-unknown options b rest ending h;
}
from-unknown options b rest ending (chunk ∷ chunks) h = elim (cases_Bool (is_joined ending chunk)) [
  | inl joined ↦
      subst (BeginUnknown options)
      (sym (from-joined (Nothing, b ∷ rest) ending chunk chunks joined
      ∙ ap (λ (w : Word). words_from w (ending_of chunk) chunks) (same-word b rest chunk h)))
      (from-unknown options b rest (ending_of chunk) chunks h)
  | inr apart ↦ record {
    word = ended (Nothing, b ∷ rest) ending;
    others = words_from (lead_of chunk) (ending_of chunk) chunks;
    words_are = from-apart (Nothing, b ∷ rest) ending chunk chunks apart;
    refused = ended-unknown options b rest ending h;
  }
]

-- ---- the text

text-unknown : (options : NpmOptions) (text : List ℕ) → BeginsWith is_solid text
    → begins begins_comparator text ≡ false → BeginUnknown options (words_of (chunks_of text))
text-unknown options [] solid h = absurd solid
text-unknown options (b ∷ rest) solid h =
    let chunk = b ∷ prefix_of is_solid rest in
    let chunks = chunks_of (rest_of is_solid rest) in
    subst (BeginUnknown options)
    (sym (ap words_of (chunk-solid b rest (not-true (is_space b) solid))
    ∙ words-first chunk chunks
    ∙ ap (λ (w : Word). words_from w (ending_of chunk) chunks) (no-lead b (prefix_of is_solid rest) h)))
    (from-unknown options b (prefix_of is_solid rest) (ending_of chunk) chunks h)

unknown-sides : (options : NpmOptions) (b : ℕ) (rest : List ℕ) (chunks : List (List ℕ)) → begins_comparator b ≡ false
    → hyphen_range options (sides_of ((b ∷ rest) ∷ chunks)) ≡ None
unknown-sides options b rest chunks h = grind (arith, cases_Bool, unknown-no_partial)

unknown-no_hyphen : (options : NpmOptions) (text : List ℕ) → BeginsWith is_solid text
    → begins begins_comparator text ≡ false → hyphen_range options (sides_of (chunks_of text)) ≡ None
unknown-no_hyphen options [] solid h = absurd solid
unknown-no_hyphen options (b ∷ rest) solid h =
    ap (λ (l : List (List ℕ)). hyphen_range options (sides_of l)) (chunk-solid b rest (not-true (is_space b) solid))
    ∙ unknown-sides options b (prefix_of is_solid rest) (chunks_of (rest_of is_solid rest)) h

module _ (options : NpmOptions) (piece text : List ℕ) (strict : options.loose ≡ false)
    (skipped : text ≡ rest_of is_space piece) (solid : BeginsWith is_solid text)
    (h : begins begins_comparator text ≡ false) where
  pub unknown-piece : piece_comparators options piece ≡ None
  unknown-piece =
      let first = text-unknown options text solid h in
      let none : text_comparators options text ≡ None =
      ap (comparators_of options) first.words_are
      ∙ words-refused options [] first.word first.others strict first.refused in
      piece-words options piece text skipped solid
      ∙ ap (λ (c : Option Comparator). alone_or c (text_comparators options text))
      (unknown-no_hyphen options text solid h)
      ∙ none

  pub unknown-end : IsPieceEnd options piece (Some text)
  unknown-end =
      let first = text-unknown options text solid h in (
        passed-refused options piece text first.word first.others (passed-none options piece text skipped) solid
            first.words_are first.refused,
        unknown-piece,
      )
