-- The part of a text that its first word takes, with the white space after it.
use native.Mathlib.Omega.{arith}
use Rattle.std.proofs.Common.{◌≡◌, ◌<◌, ◌∙◌, ℕ, true, List, [], ◌∷◌, ◌++◌, ap, length, refl, sym, subst, inl}
use Rattle.std.proofs.lemmas.List.{append-nil, append_assoc}
use Rattle.semver_texts.specs.Characters.{BeginsWith, BeginsWithNo}
use Rattle.semver_texts.specs.Lemmas.Public.{prefix_of-begins, rest-short}
use Rattle.semver_texts.specs.Reading.{prefix_of, rest_of}
use Rattle.npm_sets.specs.Private.RefusedViews.{IsBorder, IsReadWord}
use Rattle.npm_sets.specs.Private.WordViews.{IsNextChunk, IsReadOn, ends_word}
use Rattle.npm_sets.specs.RefusedPlace.{ends_in_space}
use Rattle.npm_sets.specs.WordTexts.{Word, chunks_of, ended, ending_of, is_solid, is_space, lead_of, word_and, words_from}
use Rattle.npm_sets.specs.WordTexts.{words_of}
use Rattle.npm_sets.specs.declared.words.Ending.{Ending}
use Rattle.npm_sets.specs.declared.words.Ending.TheVariants.{NoOperator}
use Rattle.npm_sets.proofs.Chunks.Borders.{border-append, border-less, chunks-split, part-of}
use Rattle.npm_sets.proofs.Chunks.ChunkLemmas.{after-shorter, chunks-empty, left-solid}
use Rattle.npm_sets.proofs.Chunks.Joins.{from-closed, from-ended, from-joined, words-end, words-first}
use Rattle.npm_sets.proofs.Chunks.SideLemmas.{and_more, one-chunk}

-- ---- one chunk

-- the chunk has a character
chunk-begins : (text chunk : List ℕ) → BeginsWith is_solid text → chunk ≡ prefix_of is_solid text → BeginsWith is_solid
    chunk
chunk-begins text chunk solid first = subst (BeginsWith is_solid) (sym first) (prefix_of-begins is_solid text solid)

chunk-alone : (chunk : List ℕ) → BeginsWith is_solid chunk → and_more chunk [] ≡ chunk ∷ []
chunk-alone chunk h = grind arith

-- a text is its first chunk, with the white space after it, and the rest
pub record IsFirstPart (text chunk rest : List ℕ) : Type 0 where
  pub part : List ℕ
  pub whole : text ≡ part ++ rest
  pub chunks : chunks_of part ≡ chunk ∷ []
  pub border : IsBorder part rest

pub first-part : (text chunk rest : List ℕ) → BeginsWith is_solid text → chunk ≡ prefix_of is_solid text
    → rest ≡ rest_of is_space (rest_of is_solid text) → IsFirstPart text chunk rest
first-part text chunk rest solid first after =
    let p = part-of text chunk rest first after in
    record {
      part = p.part;
      whole = p.whole;
      chunks = p.chunks ∙ chunk-alone chunk (chunk-begins text chunk solid first);
      border = p.border;
    }

-- ---- the chunks that go on with a word

-- the word and its ending after a part of the text
pub record IsPassed (word : Word) (ending : Ending) (text : List ℕ) (now : Word) (here : Ending) (rest : List ℕ)
    : Type 0 where
  pub part : List ℕ
  pub whole : text ≡ part ++ rest
  pub border : IsBorder part rest
  pub solid : BeginsWithNo is_space rest
  pub words : (more : List (List ℕ)) → words_from word ending (chunks_of part ++ more) ≡ words_from now here more

no-border : (text : List ℕ) → IsBorder [] text
unfolding ends_in_space
no-border text = inl refl

pub passed-none : (word : Word) (ending : Ending) (text : List ℕ) → BeginsWithNo is_space text
    → IsPassed word ending text word ending text
passed-none word ending text solid = record {
  part = [];
  whole = refl;
  border = no-border text;
  solid = solid;
  words = λ more. ap (λ (l : List (List ℕ)). words_from word ending (l ++ more)) chunks-empty;
}

with-chunk : (word : Word) (ending : Ending) (text : List ℕ) (now : Word) (here : Ending)
    (rest chunk others : List ℕ) → IsPassed word ending text now here rest → IsNextChunk here rest chunk others
    → IsPassed word ending text (word_and now chunk) (ending_of chunk) others
with-chunk word ending text now here rest chunk others so next =
    let q = first-part rest chunk others next.solid next.first next.after in
    let border : IsBorder so.part (q.part ++ others) = subst (IsBorder so.part) q.whole so.border in
    let chunks : chunks_of (so.part ++ q.part) ≡ chunks_of so.part ++ (chunk ∷ []) =
    chunks-split so.part q.part (border-less so.part q.part others border)
    ∙ ap (λ (l : List (List ℕ)). chunks_of so.part ++ l) q.chunks in
    record {
      part = so.part ++ q.part;
      whole =
          so.whole ∙ ap (λ (l : List ℕ). so.part ++ l) q.whole ∙ sym (append_assoc so.part q.part others);
      border = border-append so.part q.part others border q.border;
      solid = left-solid (rest_of is_solid rest) others next.after;
      words = λ more.
          ap (λ (l : List (List ℕ)). words_from word ending (l ++ more)) chunks
          ∙ ap (words_from word ending) (append_assoc (chunks_of so.part) (chunk ∷ []) more)
          ∙ so.words (chunk ∷ more)
          ∙ from-joined now here chunk more next.joined;
    }

-- the same for what the functions return
pub passed-chunk : (word : Word) (ending : Ending) (text : List ℕ) (now : Word) (here : Ending)
    (rest chunk others : List ℕ) (longer : Word) (after : Ending) → IsPassed word ending text now here rest
    → IsNextChunk here rest chunk others → longer ≡ word_and now chunk → after ≡ ending_of chunk
    → IsPassed word ending text longer after others
passed-chunk word ending text now here rest chunk others longer after so next told ends =
    subst (λ (w : Word). IsPassed word ending text w after others) (sym told)
    (subst (λ (e : Ending). IsPassed word ending text (word_and now chunk) e others) (sym ends)
    (with-chunk word ending text now here rest chunk others so next))

pub next-shorter : (ending : Ending) (text chunk rest : List ℕ) → IsNextChunk ending text chunk rest
    → length rest < length text
next-shorter ending text chunk rest next = after-shorter text rest next.solid next.after

at-end : (word : Word) (ending : Ending) (text : List ℕ) (now : Word) (here : Ending) (rest : List ℕ)
    → IsPassed word ending text now here rest → ends_word here (chunks_of rest) ≡ true
    → IsReadOn word ending text (ended now here) rest
at-end word ending text now here rest so ends = record {
  part = so.part;
  whole = so.whole;
  border = so.border;
  solid = so.solid;
  alone =
      ap (words_from word ending) (sym (append-nil (chunks_of so.part)))
      ∙ so.words []
      ∙ from-ended now here [] refl
      ∙ ap (λ (l : List Word). ended now here ∷ l) words-end;
  words =
      ap (λ (l : List ℕ). words_from word ending (chunks_of l)) so.whole
      ∙ ap (words_from word ending) (chunks-split so.part rest so.border)
      ∙ so.words (chunks_of rest)
      ∙ from-ended now here (chunks_of rest) ends;
}

pub passed-end : (word : Word) (ending : Ending) (text : List ℕ) (now : Word) (here : Ending) (rest : List ℕ)
    (whole_word : Word) → IsPassed word ending text now here rest → ends_word here (chunks_of rest) ≡ true
    → whole_word ≡ ended now here → IsReadOn word ending text whole_word rest
passed-end word ending text now here rest whole_word so ends told =
    subst (λ (w : Word). IsReadOn word ending text w rest) (sym told) (at-end word ending text now here rest so ends)

-- ---- the first word

-- a word of one chunk
pub word-closed : (text chunk rest : List ℕ) (word : Word) → BeginsWith is_solid text
    → chunk ≡ prefix_of is_solid text → rest ≡ rest_of is_space (rest_of is_solid text) → word ≡ lead_of chunk
    → ending_of chunk ≡ NoOperator → words_of (chunks_of text) ≡ word ∷ words_of (chunks_of rest)
word-closed text chunk rest word solid first after led ends =
    ap words_of (one-chunk text chunk rest solid first after)
    ∙ words-first chunk (chunks_of rest)
    ∙ ap (λ (e : Ending). words_from (lead_of chunk) e (chunks_of rest)) ends
    ∙ from-closed (lead_of chunk) (chunks_of rest)
    ∙ ap (λ (w : Word). w ∷ words_of (chunks_of rest)) (sym led)

pub part-closed : (text chunk rest : List ℕ) (word : Word) → BeginsWith is_solid text
    → chunk ≡ prefix_of is_solid text → rest ≡ rest_of is_space (rest_of is_solid text) → word ≡ lead_of chunk
    → ending_of chunk ≡ NoOperator → IsReadWord text word rest
part-closed text chunk rest word solid first after led ends =
    let p = first-part text chunk rest solid first after in
    record {
      part = p.part;
      whole = p.whole;
      words =
          ap words_of p.chunks
          ∙ words-first chunk []
          ∙ ap (λ (e : Ending). words_from (lead_of chunk) e []) ends
          ∙ from-closed (lead_of chunk) []
          ∙ ap (λ (l : List Word). lead_of chunk ∷ l) words-end
          ∙ ap (λ (w : Word). w ∷ []) (sym led);
      border = p.border;
    }

-- a word whose first chunk ends with an operator
pub word-longer : (text chunk rest others : List ℕ) (word whole_word : Word) (ending : Ending)
    → BeginsWith is_solid text
    → chunk ≡ prefix_of is_solid text → rest ≡ rest_of is_space (rest_of is_solid text) → word ≡ lead_of chunk
    → ending ≡ ending_of chunk → IsReadOn word ending rest whole_word others
    → words_of (chunks_of text) ≡ whole_word ∷ words_of (chunks_of others)
word-longer text chunk rest others word whole_word ending solid first after led ends on =
    ap words_of (one-chunk text chunk rest solid first after)
    ∙ words-first chunk (chunks_of rest)
    ∙ ap (λ (w : Word). words_from w (ending_of chunk) (chunks_of rest)) (sym led)
    ∙ ap (λ (e : Ending). words_from word e (chunks_of rest)) (sym ends)
    ∙ on.words

pub part-longer : (text chunk rest others : List ℕ) (word whole_word : Word) (ending : Ending)
    → BeginsWith is_solid text
    → chunk ≡ prefix_of is_solid text → rest ≡ rest_of is_space (rest_of is_solid text) → word ≡ lead_of chunk
    → ending ≡ ending_of chunk → IsReadOn word ending rest whole_word others
    → IsReadWord text whole_word others
part-longer text chunk rest others word whole_word ending solid first after led ends on =
    let p = first-part text chunk rest solid first after in
    let border : IsBorder p.part (on.part ++ others) = subst (IsBorder p.part) on.whole p.border in
    record {
      part = p.part ++ on.part;
      whole = p.whole ∙ ap (λ (l : List ℕ). p.part ++ l) on.whole ∙ sym (append_assoc p.part on.part others);
      words =
          ap words_of (chunks-split p.part on.part (border-less p.part on.part others border)
          ∙ ap (λ (l : List (List ℕ)). l ++ chunks_of on.part) p.chunks)
          ∙ words-first chunk (chunks_of on.part)
          ∙ ap (λ (w : Word). words_from w (ending_of chunk) (chunks_of on.part)) (sym led)
          ∙ ap (λ (e : Ending). words_from word e (chunks_of on.part)) (sym ends)
          ∙ on.alone;
      border = border-append p.part on.part others border on.border;
    }

-- what is left is shorter
pub longer-shorter : (text rest others : List ℕ) (word whole_word : Word) (ending : Ending) → BeginsWith is_solid text
    → rest ≡ rest_of is_space (rest_of is_solid text) → IsReadOn word ending rest whole_word others
    → length others < length text
longer-shorter text rest others word whole_word ending solid after on =
    omega (arith, after-shorter text rest solid after, rest-short rest on.part others on.whole)
