-- The words of a piece, from the first on: a chunk goes on with it, or begins the next.
use native.Mathlib.Omega.{arith}
use Rattle.std.proofs.Common.{◌≡◌, ◌∙◌, ◌<◌, ◌≤◌, ◌-◌, ℕ, true, false, List, [], ◌∷◌, ap, get_or, length, refl, suc, sym}
use Rattle.std.proofs.Common.{inl, inr}
use Rattle.std.proofs.lemmas.Bool.{cases_Bool}
use Rattle.std.specs.Prelude.{not}
use Rattle.semver_texts.specs.Characters.{BeginsWith, BeginsWithNo}
use Rattle.semver_texts.specs.Reading.{prefix_of, rest_of}
use Rattle.npm_sets.specs.Private.WordViews.{IsNextChunk, ends_word}
use Rattle.npm_sets.specs.WordTexts.{Word, chunks_of, ended, ending_after, ending_of, ending_with, is_joined, is_solid}
use Rattle.npm_sets.specs.WordTexts.{is_space, lead_of, word_and, words_from, words_of}
use Rattle.npm_sets.specs.declared.words.Ending.{Ending}
use Rattle.npm_sets.specs.declared.words.Ending.TheVariants.{NoOperator}
use Rattle.npm_sets.proofs.Chunks.ChunkLemmas.{prefix-empty, solid-start}
use Rattle.npm_sets.proofs.Chunks.SideLemmas.{chunks-more}

-- ---- endings

-- the ending of a text is that of its last two characters
pub ending-last : (a b : ℕ) (text : List ℕ) → 2 ≤ length text
    → ending_after a b text ≡ ending_with (get_or text (length text - 2) 0) (get_or text (length text - 1) 0)
unfolding ending_after
ending-last a b [] some = absurd (omega arith)
ending-last a b (x ∷ []) some = absurd (omega arith)
ending-last a b (x ∷ y ∷ []) some = refl
ending-last a b (x ∷ y ∷ z ∷ text) some =
    let t : List ℕ = y ∷ z ∷ text in
    let two : length (x ∷ t) - 2 ≡ suc (length t - 2) = omega arith in
    let one : length (x ∷ t) - 1 ≡ suc (length t - 1) = omega arith in
    ending-last b x (y ∷ z ∷ text) (omega arith)
    ∙ sym (ap (λ (i : ℕ). ending_with (get_or (x ∷ t) i 0) (get_or (x ∷ t) (length (x ∷ t) - 1) 0)) two
    ∙ ap (λ (i : ℕ). ending_with (get_or (x ∷ t) (suc (length t - 2)) 0) (get_or (x ∷ t) i 0)) one)

pub ending-one : (text : List ℕ) → 1 ≤ length text → length text < 2
    → ending_of text ≡ ending_with 0 (get_or text 0 0)
unfolding ending_after
ending-one [] some short = absurd (omega arith)
ending-one (x ∷ []) some short = refl
ending-one (x ∷ y ∷ text) some short = absurd (omega arith)

pub ending-none : (text : List ℕ) → length text < 1 → ending_of text ≡ NoOperator
unfolding ending_after
ending-none [] short = refl
ending-none (x ∷ text) short = absurd (omega arith)

-- ---- words

pub words-end : words_of [] ≡ []
unfolding words_of
words-end = refl

pub words-first : (chunk : List ℕ) (chunks : List (List ℕ))
    → words_of (chunk ∷ chunks) ≡ words_from (lead_of chunk) (ending_of chunk) chunks
unfolding words_of
words-first chunk chunks = refl

pub from-end : (word : Word) (ending : Ending) → words_from word ending [] ≡ ended word ending ∷ []
unfolding words_from
from-end word ending = refl

pub from-joined : (word : Word) (ending : Ending) (chunk : List ℕ) (chunks : List (List ℕ))
    → is_joined ending chunk ≡ true
    → words_from word ending (chunk ∷ chunks) ≡ words_from (word_and word chunk) (ending_of chunk) chunks
unfolding words_from
from-joined word ending chunk chunks h = rw h refl

pub from-apart : (word : Word) (ending : Ending) (chunk : List ℕ) (chunks : List (List ℕ))
    → is_joined ending chunk ≡ false
    → words_from word ending (chunk ∷ chunks)
    ≡ ended word ending ∷ words_from (lead_of chunk) (ending_of chunk) chunks
unfolding words_from
from-apart word ending chunk chunks h = rw h refl

not-joined : (ending : Ending) (chunk : List ℕ) → not (is_joined ending chunk) ≡ true → is_joined ending chunk ≡ false
not-joined ending chunk h = grind arith

-- a word ends, and the next begins
pub from-ended : (word : Word) (ending : Ending) (chunks : List (List ℕ)) → ends_word ending chunks ≡ true
    → words_from word ending chunks ≡ ended word ending ∷ words_of chunks
from-ended word ending [] h = from-end word ending ∙ ap (λ (l : List Word). ended word ending ∷ l) (sym words-end)
from-ended word ending (chunk ∷ chunks) h =
    from-apart word ending chunk chunks (not-joined ending chunk h)
    ∙ ap (λ (l : List Word). ended word ending ∷ l) (sym (words-first chunk chunks))

-- without an operator it ends at once
pub no-operator : (chunks : List (List ℕ)) → ends_word NoOperator chunks ≡ true
no-operator [] = refl
no-operator (chunk ∷ chunks) = refl

pub from-closed : (word : Word) (chunks : List (List ℕ)) → words_from word NoOperator chunks ≡ word ∷ words_of chunks
from-closed word chunks = from-ended word NoOperator chunks (no-operator chunks)

-- there is a first word
pub from-some : (word : Word) (ending : Ending) (chunks : List (List ℕ))
    → (first : Word) × (words : List Word) × (words_from word ending chunks ≡ first ∷ words)
from-some word ending [] = (ended word ending, [], from-end word ending)
from-some word ending (chunk ∷ chunks) = elim (cases_Bool (is_joined ending chunk)) [
  | inl joined ↦
      let more = from-some (word_and word chunk) (ending_of chunk) chunks in
      (more.0, more.1, from-joined word ending chunk chunks joined ∙ more.2)
  | inr apart ↦ (
    ended word ending,
    words_from (lead_of chunk) (ending_of chunk) chunks,
    from-apart word ending chunk chunks apart,
  )
]

-- ---- the next chunk

pub next-none : (ending : Ending) (text chunk rest : List ℕ) → BeginsWithNo is_space text
    → chunk ≡ prefix_of is_solid text → rest ≡ rest_of is_space (rest_of is_solid text) → chunk ≡ []
    → ends_word ending (chunks_of text) ≡ true
next-none ending text chunk rest solid first after none = grind (arith, chunks-more text chunk rest solid first after)

some-solid : (text : List ℕ) → BeginsWithNo is_space text → ¬ (prefix_of is_solid text ≡ [])
    → BeginsWith is_solid text
some-solid [] solid some = absurd (some prefix-empty)
some-solid (b ∷ text) solid some = solid-start b text solid

pub next-joined : (ending : Ending) (text chunk rest : List ℕ) → BeginsWithNo is_space text
    → chunk ≡ prefix_of is_solid text → rest ≡ rest_of is_space (rest_of is_solid text) → ¬ (chunk ≡ [])
    → is_joined ending chunk ≡ true → IsNextChunk ending text chunk rest
next-joined ending text chunk rest solid first after some joined = record {
  solid = some-solid text solid (λ e. some (first ∙ e));
  first = first;
  after = after;
  joined = joined;
}

pub next-apart : (ending : Ending) (text chunk rest : List ℕ) → BeginsWithNo is_space text
    → chunk ≡ prefix_of is_solid text → rest ≡ rest_of is_space (rest_of is_solid text)
    → is_joined ending chunk ≡ false → ends_word ending (chunks_of text) ≡ true
next-apart ending text [] rest solid first after apart =
    grind (arith, chunks-more text [] rest solid first after)
next-apart ending text (b ∷ chunk) rest solid first after apart =
    ap (ends_word ending) (chunks-more text (b ∷ chunk) rest solid first after) ∙ ap not apart
