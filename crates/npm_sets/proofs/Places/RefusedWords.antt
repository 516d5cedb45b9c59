-- The words of a piece up to the first that is no comparator.
use native.Mathlib.Omega.{arith}
use Rattle.std.proofs.Common.{◌≡◌, ◌∙◌, ℕ, Bool, true, false, List, []}
use Rattle.std.proofs.Common.{◌∷◌, ◌++◌, Option, Some, None, Result, Ok, ap, refl}
use Rattle.std.proofs.Common.{IsOk, IsErr, sym, subst, inl, inr}
use Rattle.std.specs.Prelude.{is_ok}
use Rattle.std.specs.List.{AllByRecursion}
use Rattle.std.proofs.lemmas.Bool.{cases_Bool}
use Rattle.std.proofs.lemmas.List.{append-nil, append_assoc}
use Rattle.semver_texts.specs.Characters.{BeginsWith, BeginsWithNo}
use Rattle.semver_texts.specs.Reading.{prefix_of, rest_of}
use Rattle.semver_texts.specs.Lemmas.Public.{prefix_of-all, prefix_of-rest_of, rest_of-no}
use Rattle.semver_texts.specs.declared.parse.fault.Fault.{Fault}
use Rattle.semver_sets.specs.Comparator.{Comparator}
use Rattle.npm_sets.specs.NpmMeaning.{comparators_of, with_word, word_comparator}
use Rattle.npm_sets.specs.PartialTexts.{partial_of}
use Rattle.npm_sets.specs.Private.RefusedViews.{AreComparators, IsBorder, IsEndOf, IsReadWord}
use Rattle.npm_sets.specs.RefusedPlace.{IsFirstRefused, ends_in_space}
use Rattle.npm_sets.specs.WordTexts.{Word, chunks_of, ended, ending_of, is_joined, is_solid, is_space, lead_of, word_and}
use Rattle.npm_sets.specs.WordTexts.{words_from, words_of}
use Rattle.npm_sets.specs.Private.WordViews.{ends_word}
use Rattle.npm_sets.specs.declared.words.Ending.{Ending}
use Rattle.npm_sets.specs.declared.words.Ending.TheVariants.{Comparison, NoOperator, Sign, TildeGreater}
use Rattle.npm_sets.specs.declared.options.NpmOptions.{NpmOptions}
use Rattle.npm_sets.specs.declared.words.Lead.{Lead}
use Rattle.npm_sets.proofs.Chunks.Borders.{border-append, border-less, chunks-none, chunks-split, ends-all}
use Rattle.npm_sets.proofs.Chunks.Joins.{from-apart, from-end, from-ended, from-joined, no-operator, words-end, words-first}
use Rattle.npm_sets.proofs.Pieces.WordReading.{comparators-end, comparators-step, with-refused}

-- ---- lists

pub all-append : {X : Type 0} (P : X → Type 0) (xs ys : List X) → AllByRecursion P xs → AllByRecursion P ys
    → AllByRecursion P (xs ++ ys)
all-append P [] ys all more = more
all-append P (x ∷ xs) ys all more = (all.0, all-append P xs ys all.1 more)

pub all-last_part : {X : Type 0} (P : X → Type 0) (xs ys : List X) → AllByRecursion P (xs ++ ys) → AllByRecursion P ys
all-last_part P [] ys all = all
all-last_part P (x ∷ xs) ys all = all-last_part P xs ys all.1

-- ---- comparators have an operand

no-operand : (options : NpmOptions) (lead : Lead) → IsOk (word_comparator options (lead, [])) → ⊥
unfolding partial_of rest_of
no-operand options lead ok = cc ok

-- a word that is a comparator ends with no operator
not-open : (options : NpmOptions) (word : Word) (ending : Ending) → IsOk (word_comparator options (ended word ending))
    → ending ≡ NoOperator
not-open options word NoOperator ok = refl
not-open options word Comparison ok = absurd (no-operand options word.0 ok)
not-open options word TildeGreater ok = absurd (no-operand options word.0 ok)
not-open options word Sign ok = absurd (no-operand options word.0 ok)

-- so no chunk goes on with it
from-append : (options : NpmOptions) (word : Word) (ending : Ending) (chunks more : List (List ℕ))
    → AreComparators options (words_from word ending chunks)
    → words_from word ending (chunks ++ more) ≡ words_from word ending chunks ++ words_of more
from-append options word ending [] more all =
    let here : AreComparators options (ended word ending ∷ []) =
    subst (AreComparators options) (from-end word ending) all in
    let ends = not-open options word ending here.0 in
    from-ended word ending more (ap (λ (e : Ending). ends_word e more) ends ∙ no-operator more)
    ∙ ap (λ (l : List Word). l ++ words_of more) (sym (from-end word ending))
from-append options word ending (chunk ∷ chunks) more all = elim (cases_Bool (is_joined ending chunk)) [
  | inl joined ↦
      let step = from-joined word ending chunk chunks joined in
      from-joined word ending chunk (chunks ++ more) joined
      ∙ from-append options (word_and word chunk) (ending_of chunk) chunks more
      (subst (AreComparators options) step all)
      ∙ ap (λ (l : List Word). l ++ words_of more) (sym step)
  | inr apart ↦
      let step = from-apart word ending chunk chunks apart in
      let parts : AreComparators options (ended word ending ∷ words_from (lead_of chunk) (ending_of chunk) chunks) =
      subst (AreComparators options) step all in
      from-apart word ending chunk (chunks ++ more) apart
      ∙ ap (λ (l : List Word). ended word ending ∷ l)
      (from-append options (lead_of chunk) (ending_of chunk) chunks more parts.1)
      ∙ ap (λ (l : List Word). l ++ words_of more) (sym step)
]

pub words-append : (options : NpmOptions) (chunks more : List (List ℕ)) → AreComparators options (words_of chunks)
    → words_of (chunks ++ more) ≡ words_of chunks ++ words_of more
words-append options [] more all = ap (λ (l : List Word). l ++ words_of more) (sym words-end)
words-append options (chunk ∷ chunks) more all =
    let first = words-first chunk chunks in
    words-first chunk (chunks ++ more)
    ∙ from-append options (lead_of chunk) (ending_of chunk) chunks more (subst (AreComparators options) first all)
    ∙ ap (λ (l : List Word). l ++ words_of more) (sym first)

-- ---- the words so far

-- the words before the rest of a piece are comparators
pub record WordsPassed (options : NpmOptions) (piece rest : List ℕ) : Type 0 where
  pub start : List ℕ
  pub whole : piece ≡ start ++ rest
  pub comparators : AreComparators options (words_of (chunks_of start))
  pub border : IsBorder start rest
  pub solid : BeginsWithNo is_space rest

pub passed-none : (options : NpmOptions) (piece rest : List ℕ) → rest ≡ rest_of is_space piece
    → WordsPassed options piece rest
passed-none options piece rest after =
    let blanks = prefix_of is_space piece in
    let all = prefix_of-all is_space piece in
    record {
      start = blanks;
      whole = sym (prefix_of-rest_of is_space piece) ∙ ap (λ (l : List ℕ). blanks ++ l) (sym after);
      comparators = subst (AreComparators options) (sym (ap words_of (chunks-none blanks all) ∙ words-end)) tt;
      border = inl (ends-all blanks all);
      solid = subst (BeginsWithNo is_space) (sym after) (rest_of-no is_space piece);
    }

-- with one more comparator
pub passed-more : (options : NpmOptions) (piece rest others : List ℕ) (word : Word) → WordsPassed options piece rest
    → IsReadWord rest word others → IsOk (word_comparator options word) → BeginsWithNo is_space others
    → WordsPassed options piece others
passed-more options piece rest others word so read ok solid =
    grind (
      arith,
      chunks-split,
      border-less,
      words-append options (chunks_of so.start) (chunks_of read.part) so.comparators,
      append_assoc so.start read.part others,
      all-append,
      border-append,
    )

-- where nothing is left
pub passed-all : (options : NpmOptions) (piece rest : List ℕ) → WordsPassed options piece rest → rest ≡ []
    → AreComparators options (words_of (chunks_of piece))
passed-all options piece rest so none = grind (arith, append-nil so.start)

-- before more there is white space
space-before : (start rest : List ℕ) → IsBorder start rest → BeginsWith is_solid rest → ends_in_space start ≡ true
space-before start rest h1 h2 = grind arith

-- at a word that is no comparator
pub passed-refused : (options : NpmOptions) (piece rest : List ℕ) (word : Word) (others : List Word)
    → WordsPassed options piece rest → BeginsWith is_solid rest → words_of (chunks_of rest) ≡ word ∷ others
    → IsErr (word_comparator options word) → IsEndOf options piece rest
passed-refused options piece rest word others so solid words refused =
    grind (arith, space-before so.start rest so.border solid)

-- ---- what the test of a word returns

pub ok-told : (options : NpmOptions) (word : Word) (r : Bool) → r ≡ is_ok (word_comparator options word) → r ≡ true
    → IsOk (word_comparator options word)
ok-told options word r told is = sym told ∙ is

pub err-told : (options : NpmOptions) (word : Word) (r : Bool) → r ≡ is_ok (word_comparator options word) → r ≡ false
    → IsErr (word_comparator options word)
err-told options word r h1 h2 = grind arith

-- ---- the comparators of the words

ok-value : (r : Result Comparator Fault) → IsOk r → (c : Comparator) × (r ≡ Ok c)
ok-value r h1 = grind arith

-- words that are comparators are read
pub words-read : (options : NpmOptions) (words : List Word) → AreComparators options words
    → (comparators : List Comparator) × (comparators_of options words ≡ Some comparators)
words-read options [] all = grind (arith, comparators-end options)
words-read options (word ∷ words) all =
    grind (
      arith,
      ok-value (word_comparator options word) all.0,
      comparators-step options word words,
      words-read options words all.1,
    )

pub some-read : (options : NpmOptions) (word : Word) (words : List Word) → AreComparators options (word ∷ words)
    → (c : Comparator) × (others : List Comparator) × (comparators_of options (word ∷ words) ≡ Some (c ∷ others))
some-read options word words h1 = grind (arith, words-read, ok-value, comparators-step)

none-with : (loose : Bool) (r : Result Comparator Fault) → with_word loose r None ≡ None
none-with loose r = grind arith

refused-word : (options : NpmOptions) (r : Result Comparator Fault) (more : Option (List Comparator))
    → options.loose ≡ false → IsErr r → with_word options.loose r more ≡ None
refused-word options r more h1 h2 = grind (arith, with-refused)

-- words with one that is no comparator are refused in strict form
pub words-refused : (options : NpmOptions) (done : List Word) (word : Word) (others : List Word)
    → options.loose ≡ false → IsErr (word_comparator options word)
    → comparators_of options (done ++ (word ∷ others)) ≡ None
words-refused options [] word others strict refused = grind (arith, comparators-step, refused-word)
words-refused options (d ∷ done) word others strict refused =
    grind (arith, comparators-step, none-with, words-refused options done word others strict refused)

-- the words on both sides of the place
pub place-words : (options : NpmOptions) (start end : List ℕ) → IsFirstRefused options start end
    → words_of (chunks_of (start ++ end)) ≡ words_of (chunks_of start) ++ words_of (chunks_of end)
place-words options start end first =
    ap words_of (chunks-split start end (inl first.border))
    ∙ words-append options (chunks_of start) (chunks_of end) first.comparators
