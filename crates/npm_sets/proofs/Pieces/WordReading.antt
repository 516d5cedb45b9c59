-- The words of a piece, as they are read one after another.
use native.Mathlib.Omega.{arith}
use Rattle.std.proofs.Common.{◌≡◌, ℕ, Bool, true, false, List, [], ◌∷◌, ◌++◌, Option, Some, None, Ok, Err, refl}
use Rattle.std.specs.Prelude.{◌&&◌}
use Rattle.std.specs.List.{AllByRecursion}
use Rattle.std.proofs.lemmas.List.{append-nil, append_assoc}
use Rattle.semver_texts.specs.Characters.{BeginsWithNo}
use Rattle.semver_texts.specs.Lemmas.Public.{answer}
use Rattle.semver_texts.specs.declared.parse.fault.Fault.{Fault}
use Rattle.semver_sets.specs.Comparator.{Comparator}
use Rattle.semver_sets.specs.Merging.{IsCommonSpan, IsNarrowedTo}
use Rattle.semver_sets.specs.PartialText.{Partial}
use Rattle.semver_sets.specs.declared.read.Unread.{Unread}
use Rattle.semver_sets.specs.declared.read.Unread.TheVariants.{OutOfMemory, Refused}
use Rattle.semver_sets.specs.Lemmas.Comparators.{IsReadEnds}
use Rattle.npm_sets.specs.NpmMeaning.{comparators_of, is_unknown, with_word, word_comparator}
use Rattle.npm_sets.specs.PartialTexts.{partial_of}
use Rattle.npm_sets.specs.Private.ReadViews.{AreRead, IsRead, IsWordRead}
use Rattle.npm_sets.specs.Private.ReadViews.{has_some, prepend}
use Rattle.npm_sets.specs.Rows.{lead_comparator}
use Rattle.npm_sets.specs.WordTexts.{Word, chunks_of, is_space, words_of}
use Rattle.npm_sets.specs.declared.options.NpmOptions.{NpmOptions}
use Rattle.npm_sets.specs.declared.words.Lead.{Lead}
use Rattle.npm_sets.proofs.Chunks.ChunkLemmas.{chunks-empty}
use Rattle.npm_sets.proofs.Chunks.Joins.{words-end}

-- ---- lists

pub prepend-none : {X : Type 0} (more : Option (List X)) → prepend [] more ≡ more
prepend-none more = grind arith

pub prepend-append : {X : Type 0} (done next : List X) (more : Option (List X))
    → prepend (done ++ next) more ≡ prepend done (prepend next more)
prepend-append done next more = grind (arith, append_assoc)

pub has-last : {X : Type 0} (done : List X) (x : X) → true ≡ has_some (done ++ x ∷ [])
has-last [] x = refl
has-last (y ∷ done) x = refl

pub all-last : {X : Type 0} (P : X → Type 0) (done : List X) (x : X) → AllByRecursion P done → P x
    → AllByRecursion P (done ++ x ∷ [])
all-last P [] x all here = (here, tt)
all-last P (y ∷ done) x all here = (all.0, all-last P done x all.1 here)

-- ---- one word

-- a word whose operand is a partial gives the comparator of its row
pub word-read : (options : NpmOptions) (lead : Lead) (operand : List ℕ) (p : Partial) (c : Comparator)
    → answer p ≡ partial_of options.loose operand → c ≡ lead_comparator options.include_prerelease lead p
    → word_comparator options (lead, operand) ≡ Ok c
word-read options lead operand p c h1 h2 = grind (arith, answer)

-- with a comparator
with-comparator : (loose : Bool) (c : Comparator) (more : Option (List Comparator))
    → with_word loose (Ok c) more ≡ prepend (c ∷ []) more
with-comparator loose c more = grind arith

-- with a word that is ignored
with-ignored : (loose : Bool) (fault : Fault) (more : Option (List Comparator)) → (loose && is_unknown fault) ≡ true
    → with_word loose (Err fault) more ≡ more
with-ignored loose fault more h1 = grind arith

-- with a word that refuses the text
pub with-refused : (loose : Bool) (fault : Fault) (more : Option (List Comparator)) → (loose && is_unknown fault) ≡
    false
    → with_word loose (Err fault) more ≡ None
with-refused loose fault more h1 = grind arith

pub comparators-step : (options : NpmOptions) (word : Word) (words : List Word)
    → comparators_of options (word ∷ words)
    ≡ with_word options.loose (word_comparator options word) (comparators_of options words)
unfolding comparators_of
comparators-step options word words = refl

pub comparators-end : (options : NpmOptions) → comparators_of options [] ≡ Some []
unfolding comparators_of
comparators-end options = refl

-- ---- the words so far

-- the comparators of the words of a text
abbrev pub text_comparators : NpmOptions → List ℕ → Option (List Comparator)
text_comparators options text = comparators_of options (words_of (chunks_of text))

-- the comparators before the rest of a text, and what is kept of them
pub record WordsSoFar (options : NpmOptions) (text rest : List ℕ) (common : Option Comparator) (found : Bool)
    : Type 0 where
  pub done : List Comparator
  pub read : prepend done (text_comparators options rest) ≡ text_comparators options text
  pub common_is : IsCommonSpan done common
  pub found_is : found ≡ has_some done
  pub bounded : AllByRecursion IsReadEnds done
  pub solid : BeginsWithNo is_space rest

-- the first word of the rest
rest-step : (options : NpmOptions) (rest others : List ℕ) (word : Word)
    → words_of (chunks_of rest) ≡ word ∷ words_of (chunks_of others)
    → text_comparators options rest
    ≡ with_word options.loose (word_comparator options word) (text_comparators options others)
rest-step options rest others word first = grind (arith, comparators-step options word (words_of (chunks_of others)))

pub words-merged : (options : NpmOptions) (text rest others : List ℕ) (before after : Option Comparator) (found : Bool)
    (word : Word) (c : Comparator) → WordsSoFar options text rest before found
    → words_of (chunks_of rest) ≡ word ∷ words_of (chunks_of others) → BeginsWithNo is_space others
    → word_comparator options word ≡ Ok c → IsNarrowedTo before c after → IsReadEnds c
    → WordsSoFar options text others after true
words-merged options text rest others before after found word c so first solid is narrows bounded =
    grind (
      arith,
      prepend-append so.done (c ∷ []) (text_comparators options others),
      rest-step options rest others word first,
      with-comparator options.loose c (text_comparators options others),
      has-last so.done c,
      all-last IsReadEnds so.done c so.bounded bounded,
    )

pub words-ignored : (options : NpmOptions) (text rest others : List ℕ) (before after : Option Comparator) (found : Bool)
    (word : Word) (fault : Fault) → WordsSoFar options text rest before found
    → words_of (chunks_of rest) ≡ word ∷ words_of (chunks_of others) → BeginsWithNo is_space others
    → word_comparator options word ≡ Err fault → (options.loose && is_unknown fault) ≡ true → after ≡ before
    → WordsSoFar options text others after found
words-ignored options text rest others before after found word fault so first solid is ignored same =
    grind (
      arith,
      rest-step options rest others word first,
      with-ignored options.loose fault (text_comparators options others) ignored,
    )

pub words-refused : (options : NpmOptions) (text rest others : List ℕ) (before : Option Comparator) (found : Bool)
    (word : Word) (fault : Fault) → WordsSoFar options text rest before found
    → words_of (chunks_of rest) ≡ word ∷ words_of (chunks_of others)
    → word_comparator options word ≡ Err fault → (options.loose && is_unknown fault) ≡ false
    → text_comparators options text ≡ None
words-refused options text rest others before found word fault so first is refused =
    grind (
      arith,
      rest-step options rest others word first,
      with-refused options.loose fault (text_comparators options others) refused,
    )

pub words-done : (options : NpmOptions) (text rest : List ℕ) (common : Option Comparator) (found : Bool)
    → WordsSoFar options text rest common found → rest ≡ []
    → AreRead (text_comparators options text) common found
words-done options text rest common found h1 h2 = grind (arith, chunks-empty, words-end, comparators-end, append-nil)

-- ---- what the reader of a word returns

pub words-told : (options : NpmOptions) (text rest others : List ℕ) (before after : Option Comparator) (found : Bool)
    (word : Word) (merged : Bool) → WordsSoFar options text rest before found
    → words_of (chunks_of rest) ≡ word ∷ words_of (chunks_of others) → BeginsWithNo is_space others
    → IsWordRead options.loose (word_comparator options word) before after (Ok merged) → merged ≡ true
    → WordsSoFar options text others after true
words-told options text rest others before after found word true so first solid read is =
    words-merged options text rest others before after found word read.0 so first solid read.1 read.2 read.3
words-told options text rest others before after found word false so first solid read is = cc is

pub words-kept : (options : NpmOptions) (text rest others : List ℕ) (before after : Option Comparator) (found : Bool)
    (word : Word) (merged : Bool) → WordsSoFar options text rest before found
    → words_of (chunks_of rest) ≡ word ∷ words_of (chunks_of others) → BeginsWithNo is_space others
    → IsWordRead options.loose (word_comparator options word) before after (Ok merged) → merged ≡ false
    → WordsSoFar options text others after found
words-kept options text rest others before after found word merged h1 h2 h3 h4 h5 = grind (arith, words-ignored)

pub words-failed : (options : NpmOptions) (text rest others : List ℕ) (before after : Option Comparator) (found : Bool)
    (word : Word) (unread : Unread) → WordsSoFar options text rest before found
    → words_of (chunks_of rest) ≡ word ∷ words_of (chunks_of others)
    → IsWordRead options.loose (word_comparator options word) before after (Err unread)
    → IsRead (text_comparators options text) after (Err unread)
words-failed options text rest others before after found word Refused so first read =
    words-refused options text rest others before found word read.0 so first read.1 read.2
words-failed options text rest others before after found word OutOfMemory so first read = tt
