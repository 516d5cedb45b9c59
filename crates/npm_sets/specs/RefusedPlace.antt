-- Where npm's reading stops in strict form: at the first word that is no comparator.
--
-- `1 - 2 || >= 3 foo 4`, read with what follows:
--   The piece `1 - 2 ` is a hyphen range, so it is read. The piece ` >= 3 foo 4` is refused.
--   Its words are `>= 3`, `foo` and `4`. `>= 3` is a comparator, and `foo` is none.
--   So reading stops at `foo`. Before it are `1 - 2 || >= 3 ` and, in its piece, ` >= 3 `.
use Rattle.std.specs.Prelude.{◌≡◌, ℕ, Bool, true, false, List, [], ◌∷◌, ◌++◌, None, IsErr, IsOk, IsSome, chars}
use Rattle.std.specs.Prelude.{encode_utf8_all}
use Rattle.std.specs.Prelude.{length}
use Rattle.std.specs.List.{AllByRecursion}
use Rattle.semver_texts.specs.Characters.{BeginsWith}
use Rattle.npm_sets.specs.NpmMeaning.{piece_comparators, word_comparator}
use Rattle.npm_sets.specs.Spaces.{plain_text}
use Rattle.npm_sets.specs.WordTexts.{Word, chunks_of, is_solid, is_space, pieces_of, words_of}
use Rattle.npm_sets.specs.declared.options.NpmOptions.{NpmOptions}

-- the text is empty, or ends with white space
unfoldable pub ends_in_space : List ℕ → Bool
ends_in_space [] = true
ends_in_space (b ∷ []) = is_space b
ends_in_space (b ∷ c ∷ rest) = ends_in_space (c ∷ rest)

-- all words of `before` are comparators, and the first word of `after` is none
pub record IsFirstRefused (options : NpmOptions) (before after : List ℕ) : Type 0 where
  pub comparators : AllByRecursion (λ word. IsOk (word_comparator options word)) (words_of (chunks_of before))
  -- `after` begins where the word begins: white space is before it, or nothing, and it is no white space itself
  pub border : ends_in_space before ≡ true
  pub solid : BeginsWith is_solid after
  pub word : Word
  pub others : List Word
  pub words : words_of (chunks_of after) ≡ word ∷ others
  pub refused : IsErr (word_comparator options word)

-- reading the text `before ++ after` stops where `after` begins
pub record IsRefusedFrom (options : NpmOptions) (before after : List ℕ) : Type 0 where
  -- the earlier pieces, each of which is read
  pub earlier : List (List ℕ)
  pub read : AllByRecursion (λ piece. IsSome (piece_comparators options piece)) earlier
  -- the piece that is refused, divided at its first word that is no comparator
  pub start : List ℕ
  pub end : List ℕ
  pub refused : piece_comparators options (start ++ end) ≡ None
  pub first : IsFirstRefused options start end
  -- `before` ends with `start`, after the earlier pieces; and `end` follows
  pub begins : pieces_of before ≡ earlier ++ (start ∷ [])
  pub later : List (List ℕ)
  pub whole : pieces_of (before ++ after) ≡ earlier ++ ((start ++ end) ∷ later)

-- reading stops at this byte offset of the text, where white space outside ASCII counts as a space
pub record IsRefusedAt (options : NpmOptions) (text : List ℕ) (offset : ℕ) : Type 0 where
  -- the characters before the word, and those from it on
  pub before : List ℕ
  pub after : List ℕ
  pub whole : chars text ≡ before ++ after
  pub refused : IsRefusedFrom options (plain_text before) (plain_text after)
  pub offset_is : offset ≡ length (encode_utf8_all before)

-- there is at most one such offset
abbrev pub HasOnePlace : NpmOptions → List ℕ → Type 0
HasOnePlace options text = (m n : ℕ) → IsRefusedAt options text m → IsRefusedAt options text n → m ≡ n

-- the offset that is reported: this one in strict form. In loose form the whole text is refused, at 0
pub record IsRefusalOffset (options : NpmOptions) (text : List ℕ) (offset : ℕ) : Type 0 where
  pub strict : options.loose ≡ false → IsRefusedAt options text offset
  pub in_loose : options.loose ≡ true → offset ≡ 0
