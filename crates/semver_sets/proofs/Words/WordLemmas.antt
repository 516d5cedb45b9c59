-- The word with which a text begins: the reader reads exactly these words.
use native.Mathlib.Omega.{arith}
use Rattle.std.proofs.Common.{◌≡◌, ◌⊎◌, ℕ, true, List, ◌∷◌, ◌++◌, Option, Some, None, refl, sym, subst}
use Rattle.std.proofs.lemmas.Bool.{cases_Bool, eqb-true, or_cases}
use Rattle.semver_texts.specs.Characters.{BeginsWithNo, is_blank}
use Rattle.semver_sets.specs.Comparator.{Comparator}
use Rattle.semver_sets.specs.Division.{IsSimpleText, IsWord, NoneAt, hyphen_range, ignored, simple}
use Rattle.semver_texts.specs.Characters.{IsCleanEnd}
use Rattle.semver_sets.specs.HyphenRanges.{IsHyphenText, hyphen_comparator}
use Rattle.semver_sets.specs.PartialText.{Partial}
use Rattle.semver_texts.specs.Reading.{prefix_of, rest_of}
use Rattle.semver_sets.specs.Private.WordReading.{ReadPartial, Word, is_not_blank, no_lead, or_else, or_ignored}
use Rattle.semver_sets.specs.Private.WordReading.{read_hyphen, read_lead, read_operator, read_partial, read_right}
use Rattle.semver_sets.specs.Private.WordReading.{read_simple, read_word, said, up_to_clean, with_left}
use Rattle.semver_sets.proofs.Words.HyphenReading.{hyphen-again, hyphen-takes}
use Rattle.semver_sets.proofs.Words.LeadReading.{lead-none}
use Rattle.semver_sets.proofs.Words.PartialReading.{partial-unblanked}
use Rattle.semver_texts.specs.Lemmas.Public.{prefix_of-all, prefix_of-rest_of, rest_of-again, rest_of-no}
use Rattle.semver_sets.proofs.Words.SimpleReading.{simple-again, simple-takes}

-- what begins with no solid character is the end or begins with a blank
clean-from_no_solid : (text : List ℕ) → BeginsWithNo is_not_blank text → IsCleanEnd text
clean-from_no_solid text h1 = grind (arith, cases_Bool)

no_solid-from_clean : (text : List ℕ) → IsCleanEnd text → BeginsWithNo is_not_blank text
no_solid-from_clean text h1 = grind arith

-- ---- no prefix is a word of a kind exactly where none is read

pub no-hyphen : (text : List ℕ) → read_hyphen text ≡ None → NoneAt IsHyphenText text
no-hyphen text none prefix rest c whole clean read = cc (none, whole, hyphen-again prefix rest c read clean)

no-simple : (text : List ℕ) → read_simple text ≡ None → NoneAt IsSimpleText text
no-simple text none prefix rest c whole clean read = cc (none, whole, simple-again prefix rest c read clean)

hyphen-none : (text : List ℕ) (found : Option Word) → read_hyphen text ≡ found → NoneAt IsHyphenText text → found ≡ None
hyphen-none text None r none = refl
hyphen-none text (Some w) r none =
    let t = hyphen-takes text w.0 w.1 r in
    absurd (none t.taken w.1 w.0 t.whole t.clean t.read)

simple-unread : (text : List ℕ) (found : Option Word) → read_simple text ≡ found → NoneAt IsSimpleText text
    → found ≡ None
simple-unread text None r none = refl
simple-unread text (Some w) r none =
    let t = simple-takes text w.0 w.1 r in
    absurd (none t.taken w.1 w.0 t.whole t.clean t.read)

-- ---- one word

-- the word with which a text begins, and the rest
pub record HasWord (text : List ℕ) (comparator : Option Comparator) (rest : List ℕ) : Type 0 where
  pub word : List ℕ
  pub whole : text ≡ word ++ rest
  pub is_word : IsWord word rest comparator
  pub clean : IsCleanEnd rest

word-takes : (text : List ℕ) (hyphen simple_word : Option Word) → read_hyphen text ≡ hyphen
    → read_simple text ≡ simple_word
    → HasWord text (or_ignored (or_else hyphen simple_word) text).0
    (or_ignored (or_else hyphen simple_word) text).1
word-takes text (Some w) s r q = grind (arith, hyphen-takes text w.0 w.1 r)
word-takes text None (Some w) r q =
    let t = simple-takes text w.0 w.1 q in
    record {
      word = t.taken;
      whole = t.whole;
      is_word = simple (subst (NoneAt IsHyphenText) t.whole (no-hyphen text r)) t.read t.clean;
      clean = t.clean;
    }
word-takes text None None r q =
    let clean = clean-from_no_solid (rest_of is_not_blank text) (rest_of-no is_not_blank text) in
    let whole = sym (prefix_of-rest_of is_not_blank text) in
    record {
      word = prefix_of is_not_blank text;
      whole = whole;
      is_word = ignored (subst (NoneAt IsHyphenText) whole (no-hyphen text r))
          (subst (NoneAt IsSimpleText) whole (no-simple text q))
          (prefix_of-all is_not_blank text) clean refl;
      clean = clean;
    }

-- the text before the rest is a word
pub word-is : (text : List ℕ) → HasWord text (read_word text).0 (read_word text).1
unfolding read_word
word-is text = word-takes text (read_hyphen text) (read_simple text) refl refl

-- each word is read
pub word-again : (word rest : List ℕ) (comparator : Option Comparator) → IsWord word rest comparator
    → read_word (word ++ rest) ≡ (comparator, rest)
unfolding read_word
word-again word rest comparator (hyphen_range read clean) = rw (hyphen-again word rest comparator read clean) refl
word-again word rest comparator (simple none read clean) =
    grind (
      arith,
      hyphen-none (word ++ rest) (read_hyphen (word ++ rest)) refl none,
      simple-again word rest comparator read clean,
    )
word-again word rest comparator (ignored none nothing solid clean nil) = grind (
  arith,
  hyphen-none (word ++ rest) (read_hyphen (word ++ rest)) refl none,
  simple-unread (word ++ rest)
      (read_simple (word ++ rest)) refl nothing,
  rest_of-again is_not_blank word rest solid
      (no_solid-from_clean rest clean),
)

-- a word that was read
pub has-word : (text : List ℕ) (c : Option Comparator) (rest : List ℕ) → read_word text ≡ (c, rest)
    → HasWord text c rest
has-word text c rest read = subst (λ (w : Word). HasWord text w.0 w.1) read (word-is text)

-- ---- a text that begins with blanks

-- where a text begins with no blank, no hyphen range without a left side does
pub right-no_blank : (text : List ℕ) → BeginsWithNo is_blank text → read_right text ≡ None
unfolding read_right
right-no_blank text h1 = grind arith

pub hyphen-with_left : (text : List ℕ) → read_right text ≡ None → read_hyphen text ≡ with_left (read_partial text)
unfolding read_hyphen
hyphen-with_left text none = rw none refl

simple-of_partial : (text : List ℕ) (r : ReadPartial) → read_lead text ≡ (no_lead, text) → read_partial text ≡ r
    → read_simple text ≡ said no_lead (up_to_clean r)
unfolding read_simple
simple-of_partial text r lead read = rw (lead, read) refl

-- a blank leads nothing
pub blank-lead : (b : ℕ) (rest : List ℕ) → is_blank b ≡ true → read_lead (b ∷ rest) ≡ (no_lead, b ∷ rest)
unfolding read_lead read_operator
blank-lead b rest blank = grind (arith, or_cases, eqb-true)

blank-ignored : (b : ℕ) (rest : List ℕ) → is_blank b ≡ true → rest_of is_not_blank (b ∷ rest) ≡ b ∷ rest
unfolding rest_of
blank-ignored b rest blank = rw blank refl

word-from : (text : List ℕ) (hyphen simple_word : Option Word) → read_hyphen text ≡ hyphen
    → read_simple text ≡ simple_word
    → read_word text ≡ or_ignored (or_else hyphen simple_word) text
unfolding read_word
word-from text hyphen simple_word h g = rw (h, g) refl

-- a text that begins with this partial, and with nothing before it
word-of_partial : (text : List ℕ) (p : ReadPartial) (found : Option Word) → read_right text ≡ None
    → read_lead text ≡ (no_lead, text) → read_partial text ≡ p
    → or_else (with_left p) (said no_lead (up_to_clean p)) ≡ found → read_word text ≡ or_ignored found text
word-of_partial text p found right lead read is = grind (arith, hyphen-with_left, word-from, simple-of_partial)

-- if a word that begins with a blank is read, it is the one after its blanks; else the empty word is ignored
blank-word : (b : ℕ) (rest : List ℕ) (p : ReadPartial) (found : Option Word) → is_blank b ≡ true
    → read_right (b ∷ rest) ≡ None → read_partial (b ∷ rest) ≡ p
    → or_else (with_left p) (said no_lead (up_to_clean p)) ≡ found
    → (read_word (b ∷ rest) ≡ (None, b ∷ rest)) ⊎ (read_word (b ∷ rest) ≡ read_word (rest_of is_blank (b ∷ rest)))
blank-word b rest p found h1 h2 h3 h4 =
    grind (arith, word-of_partial, blank-lead, blank-ignored, partial-unblanked, right-no_blank, rest_of-no, lead-none)

pub word-after_blanks : (b : ℕ) (rest : List ℕ) → is_blank b ≡ true → read_right (b ∷ rest) ≡ None
    → (read_word (b ∷ rest) ≡ (None, b ∷ rest)) ⊎ (read_word (b ∷ rest) ≡ read_word (rest_of is_blank (b ∷ rest)))
word-after_blanks b rest blank right = blank-word b rest (read_partial (b ∷ rest)) _ blank right refl refl

-- a hyphen range without a left side is the word that begins with its blanks
pub word-leading : (text : List ℕ) (r : Partial × List ℕ) → read_right text ≡ Some r
    → read_word text ≡ (Some (hyphen_comparator None r.0), r.1)
unfolding read_word read_hyphen
word-leading text r right = rw right refl
