-- A text has at most one place where reading stops.
use Rattle.std.proofs.Common.{◌≡◌, ◌∙◌, ◌≤◌, ◌+◌, ℕ, suc, true, List, [], ◌∷◌, ◌++◌, None, ap, refl, sym, subst}
use Rattle.std.proofs.Common.{IsErr, IsOk, IsSome, arith, encode_utf8_all, inl, inr, length, length-append, map}
use Rattle.std.specs.Prelude.{◌⊎◌, ◌==◌, ◌&&◌}
use Rattle.std.specs.List.{AllByRecursion}
use Rattle.std.proofs.lemmas.Bool.{cases_Bool}
use Rattle.std.proofs.lemmas.List.{append-nil, map-append}
use Rattle.std.proofs.lemmas.Str.{encodes-append, length-le-encodes}
use Rattle.semver_texts.specs.Characters.{bar}
use Rattle.npm_sets.specs.NpmMeaning.{IsNpmRefused, piece_comparators, pieces_alternatives}
use Rattle.npm_sets.specs.NpmMeaning.{word_comparator}
use Rattle.npm_sets.specs.Private.RefusedViews.{AreComparators}
use Rattle.npm_sets.specs.RefusedPlace.{HasOnePlace, IsFirstRefused, IsRefusedAt, IsRefusedFrom, ends_in_space}
use Rattle.npm_sets.specs.Spaces.{plain, plain_text, with_plain_spaces}
use Rattle.npm_sets.specs.WordTexts.{Word, before_first, chunks_of, pieces_of, words_of}
use Rattle.npm_sets.specs.declared.options.NpmOptions.{NpmOptions}
use Rattle.npm_sets.proofs.Chunks.Borders.{chunks-split, ends-last}
use Rattle.npm_sets.proofs.Chunks.SideLemmas.{chunks-some}
use Rattle.npm_sets.proofs.Pieces.PieceDivision.{piece-step, pieces-nothing, pieces-short}
use Rattle.npm_sets.proofs.Pieces.TextReading.{pieces-more}
use Rattle.npm_sets.proofs.Places.RefusedPieces.{words-some}
use Rattle.npm_sets.proofs.Places.RefusedWords.{all-last_part, words-append}

-- ---- two divisions of one list

-- one of two beginnings begins the other
pub begins-other : {X : Type 0} (a b c d : List X) → a ++ b ≡ c ++ d
    → ((x : List X) × (c ≡ a ++ x) × (b ≡ x ++ d)) ⊎ ((x : List X) × (a ≡ c ++ x) × (d ≡ x ++ b))
begins-other [] b c d same = inl (c, refl, same)
begins-other (h ∷ a) b [] d same = inr (h ∷ a, refl, sym same)
begins-other (h ∷ a) b (k ∷ c) d same =
    let parts : (h ≡ k) × (a ++ b ≡ c ++ d) = (cc same, cc same) in grind (arith, begins-other a b c d parts.1)

-- ---- words

module _ (options : NpmOptions) where
  both-told : (word : Word) → IsOk (word_comparator options word) → IsErr (word_comparator options word) → ⊥
  both-told word h1 h2 = grind arith

  -- a beginning whose words are comparators does not go on past the place
  not-past : (start end : List ℕ) (b : ℕ) (more : List ℕ) → IsFirstRefused options start (b ∷ (more ++ end))
      → IsFirstRefused options (start ++ (b ∷ more)) end → ⊥
  not-past start end b more here there =
      let part = b ∷ more in
      let border : ends_in_space part ≡ true = sym (ends-last start b more) ∙ there.border in
      let words = ap words_of (chunks-split start part (inl here.border))
      ∙ words-append options (chunks_of start) (chunks_of part) here.comparators in
      let all = all-last_part (λ (w : Word). IsOk (word_comparator options w)) (words_of (chunks_of start))
      (words_of (chunks_of part)) (subst (AreComparators options) words there.comparators) in
      let some = chunks-some part here.solid in
      grind (
        arith,
        words-some some.0 some.1,
        chunks-split part end (inl border),
        words-append options (chunks_of part) (chunks_of end) all,
        both-told,
      )

  -- so the place of a piece is one
  one-start : (start end other rest : List ℕ) → start ++ end ≡ other ++ rest → IsFirstRefused options start end
      → IsFirstRefused options other rest → start ≡ other
  one-start start end other rest same here there = elim (begins-other start end other rest same) [
    | inl more ↦ longer start end other rest more.0 more.1 more.2 here there
    | inr more ↦ sym (longer other rest start end more.0 more.1 more.2 there here)
  ]
    where
      longer : (start end other rest x : List ℕ) → other ≡ start ++ x → end ≡ x ++ rest
          → IsFirstRefused options start end → IsFirstRefused options other rest → start ≡ other
      longer start end other rest [] is after here there = sym (is ∙ append-nil start)
      longer start end other rest (b ∷ x) is after here there =
          absurd (not-past start rest b x (subst (IsFirstRefused options start) after here)
          (subst (λ (l : List ℕ). IsFirstRefused options l rest) is there))

  -- ---- pieces

  none-read : (piece : List ℕ) → IsSome (piece_comparators options piece) → piece_comparators options piece ≡ None → ⊥
  none-read piece some none = cc (some, none)

  -- the piece that is refused is the first
  one-piece : (done rest : List (List ℕ)) (p q : List ℕ) (more others : List (List ℕ))
      → AllByRecursion (λ (piece : List ℕ). IsSome (piece_comparators options piece)) done
      → AllByRecursion (λ (piece : List ℕ). IsSome (piece_comparators options piece)) rest
      → piece_comparators options p ≡ None → piece_comparators options q ≡ None
      → done ++ (p ∷ more) ≡ rest ++ (q ∷ others) → (done ≡ rest) × (p ≡ q)
  one-piece [] [] p q more others all each here there same = (refl, cc same)
  one-piece [] (r ∷ rest) p q more others all each here there same = grind (arith, none-read)
  one-piece (d ∷ done) [] p q more others all each here there same = grind (arith, none-read)
  one-piece (d ∷ done) (r ∷ rest) p q more others all each here there same =
      let parts : (d ≡ r) × (done ++ (p ∷ more) ≡ rest ++ (q ∷ others)) = (cc same, cc same) in
      grind (arith, one-piece done rest p q more others all.1 each.1 here there parts.1)

-- ---- the length of a text, from its pieces

-- that of its pieces, with two for each
abbrev total : List (List ℕ) → ℕ
total [] = 0
total (piece ∷ pieces) = length piece + 2 + total pieces

total-first : (b : ℕ) (pieces : List (List ℕ)) → 2 ≤ total pieces → total (before_first b pieces) ≡ suc (total pieces)
total-first b pieces h1 = grind arith

both-bars : (b c : ℕ) (rest : List ℕ) → ((b == bar) && (c == bar)) ≡ true
    → pieces_of (b ∷ c ∷ rest) ≡ [] ∷ pieces_of rest
unfolding pieces_of
both-bars b c rest both = rw both refl

total-pieces : (text : List ℕ) → total (pieces_of text) ≡ length text + 2
total-pieces [] = grind (arith, pieces-nothing)
total-pieces (b ∷ []) = grind (arith, pieces-short)
total-pieces (b ∷ c ∷ rest) =
    grind (arith, cases_Bool, both-bars, piece-step, total-first, total-pieces rest, total-pieces (c ∷ rest))

-- texts with the same pieces have the same length
same-length : (one two : List ℕ) → pieces_of one ≡ pieces_of two → length one ≡ length two
same-length one two same = grind (arith, total-pieces one, total-pieces two)

-- ---- texts

-- two places have the same length before them
one-before : (options : NpmOptions) (before after other rest : List ℕ) → before ++ after ≡ other ++ rest
    → IsRefusedFrom options before after → IsRefusedFrom options other rest → length before ≡ length other
one-before options before after other rest same here there =
    let both = one-piece options here.earlier there.earlier (here.start ++ here.end) (there.start ++ there.end)
    here.later there.later here.read there.read here.refused there.refused
    (sym here.whole ∙ ap pieces_of same ∙ there.whole) in
    let start = one-start options here.start here.end there.start there.end both.1 here.first there.first in
    same-length before other (here.begins ∙ (λ i. both.0 i ++ (start i ∷ [])) ∙ sym there.begins)

-- ---- characters

plain-append : (one two : List ℕ) → plain_text (one ++ two) ≡ plain_text one ++ plain_text two
plain-append one two = ap encode_utf8_all (map-append plain one two) ∙ encodes-append (map plain one) (map plain two)

plain-none : (one more : List ℕ) → length (plain_text (one ++ more)) ≡ length (plain_text one) → more ≡ []
plain-none one [] same = grind arith
plain-none one (c ∷ more) same =
    grind (
      arith,
      plain-append one (c ∷ more),
      length-append (plain_text one) (plain_text (c ∷ more)),
      length-le-encodes (map plain (c ∷ more)),
    )

same-beginning : (one two other rest : List ℕ) → one ++ two ≡ other ++ rest
    → length (plain_text one) ≡ length (plain_text other) → one ≡ other
same-beginning one two other rest h1 h2 = grind (arith, begins-other, plain-none, append-nil)

pub one-place : (options : NpmOptions) (text : List ℕ) → HasOnePlace options text
one-place options text m n here there =
    let whole : here.before ++ here.after ≡ there.before ++ there.after = sym here.whole ∙ there.whole in
    let plain_whole : plain_text here.before ++ plain_text here.after ≡ plain_text there.before ++ plain_text
    there.after =
    sym (plain-append here.before here.after) ∙ ap plain_text whole ∙ plain-append there.before there.after in
    grind (
      arith,
      one-before options (plain_text here.before) (plain_text here.after) (plain_text there.before)
          (plain_text there.after) plain_whole here.refused there.refused,
      same-beginning,
    )

-- ---- a text with a place is refused

refused-pieces : (options : NpmOptions) (done : List (List ℕ)) (piece : List ℕ) (later : List (List ℕ))
    → piece_comparators options piece ≡ None → pieces_alternatives options (done ++ (piece ∷ later)) ≡ None
refused-pieces options [] piece later refused = grind (arith, pieces-more)
refused-pieces options (d ∷ done) piece later refused =
    grind (arith, pieces-more, refused-pieces options done piece later refused)

pub place-refused : (options : NpmOptions) (text : List ℕ) (offset : ℕ) → IsRefusedAt options text offset
    → IsNpmRefused options (with_plain_spaces text)
place-refused options text offset h1 = grind (arith, plain-append, refused-pieces)
