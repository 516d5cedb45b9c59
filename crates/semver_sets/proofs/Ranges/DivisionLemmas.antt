-- Alternatives: each is divided into words in exactly one way.
use Rattle.std.proofs.Common.{◌≡◌, ◌<◌, ℕ, zero, suc, List, [], ◌∷◌, ◌++◌, length, Option, Some, None}
use Rattle.std.proofs.Common.{append_assoc, length-append, arith, refl, sym, ap, subst, ◌∙◌, inl, inr}
use Rattle.std.proofs.lemmas.Bool.{cases_Bool}
use Rattle.std.proofs.lemmas.List.{append-nil}
use Rattle.semver_texts.specs.Characters.{AreAll, BeginsWith, BeginsWithNo, is_blank}
use Rattle.semver_sets.specs.Comparator.{Comparator}
use Rattle.semver_sets.specs.Division.{IsAlternative, IsDivision, IsWord, comparators_of}
use Rattle.semver_texts.specs.Reading.{rest_of, skip_one}
use Rattle.semver_sets.specs.Private.WordReading.{ReadPartial, Word, leading_or_none, read_component, read_components}
use Rattle.semver_sets.specs.Private.WordReading.{read_hyphen, read_lead, read_partial, read_right, read_simple}
use Rattle.semver_sets.specs.Private.WordReading.{read_word}
use Rattle.semver_sets.specs.Private.WordViews.{listed}
use Rattle.semver_texts.specs.Lemmas.Public.{prefix_of-all, prefix_of-rest_of}
use Rattle.semver_texts.specs.Lemmas.Public.{rest_of-short}
use Rattle.semver_texts.specs.Lemmas.Public.{rest_of-again}
use Rattle.semver_texts.specs.Lemmas.Public.{rest_of-no}
use Rattle.semver_sets.proofs.Words.WordLemmas.{HasWord, has-word, word-after_blanks, word-again, word-is, word-leading}

-- ---- all words

-- nothing is read of nothing
word-of_nothing : read_word [] ≡ (None, [])
unfolding read_word read_hyphen read_simple read_right read_partial read_components read_component
    read_lead rest_of skip_one
word-of_nothing = refl

-- a first word, with another one after it
divide-more : (text : List ℕ) (c : Option Comparator) (rest : List ℕ) (b : ℕ) (words : List (Option Comparator))
    → HasWord text c (b ∷ rest)
    → IsDivision (rest_of is_blank (b ∷ rest)) words → IsDivision text (c ∷ words)
divide-more text c rest b words h1 h2 =
    grind (
      arith,
      prefix_of-rest_of is_blank (b ∷ rest),
      prefix_of-all is_blank (b ∷ rest),
      rest_of-no is_blank (b ∷ rest),
    )

divide-last : (text : List ℕ) (c : Option Comparator) → HasWord text c [] → IsDivision text (c ∷ [])
divide-last text c w = grind (arith, append-nil w.word)

-- a text gets shorter by a word and the blanks after it
pub rest-shorter : (text : List ℕ) (c : Option Comparator) (rest : List ℕ) → HasWord text c rest → 0 < length text
    → length (rest_of is_blank rest) < length text
unfolding rest_of
rest-shorter text c rest h1 h2 = grind (arith, rest_of-short, length-append)

divide-step : (text : List ℕ) (c : Option Comparator) (rest : List ℕ) → HasWord text c rest
    → ((t : List ℕ) → length t < length text → (words : List (Option Comparator)) × IsDivision t words)
    → (words : List (Option Comparator)) × IsDivision text words
divide-step text c [] w smaller = (c ∷ [], divide-last text c w)
divide-step text c (b ∷ rest) w smaller =
    let whole : length text ≡ length (w.word ++ (b ∷ rest)) = ap length w.whole in
    let some : 0 < length text = omega (arith, length-append w.word (b ∷ rest)) in
    let more = smaller (rest_of is_blank (b ∷ rest)) (rest-shorter text c (b ∷ rest) w some) in
    (c ∷ more.0, divide-more text c rest b more.0 w more.1)

divides-below : (n : ℕ) (text : List ℕ) → length text < n → (words : List (Option Comparator)) × IsDivision text words
divides-below zero text h = absurd (omega arith)
divides-below (suc n) text h =
    divide-step text (read_word text).0 (read_word text).1 (word-is text) (λ t lt. divides-below n t (omega arith))

-- each text has a division
pub divides : (text : List ℕ) → (words : List (Option Comparator)) × IsDivision text words
divides text = divides-below (suc (length text)) text (omega arith)

-- what a division says of the first word
next-of_last : (text : List ℕ) (c : Option Comparator) → IsDivision text (c ∷ []) → read_word text ≡ (c, [])
next-of_last text c d = subst (λ (l : List ℕ). read_word l ≡ (c, [])) (append-nil text) (word-again text [] c d)

-- and of the rest, where there are more words
pub record HasMore (text : List ℕ) (c : Option Comparator) (words : List (Option Comparator)) : Type 0 where
  pub b : ℕ
  pub behind : List ℕ
  pub next : read_word text ≡ (c, b ∷ behind)
  pub division : IsDivision (rest_of is_blank (b ∷ behind)) words

more-behind : (text word blanks rest : List ℕ) (c : Option Comparator) (words : List (Option Comparator))
    → text ≡ word ++ (blanks ++ rest) → IsWord word (blanks ++ rest) c
    → BeginsWith is_blank blanks → AreAll is_blank blanks → BeginsWithNo is_blank rest → IsDivision rest words
    → HasMore text c words
more-behind text word [] rest c words whole w begins all ends d = absurd begins
more-behind text word (b ∷ blanks) rest c words whole w begins all ends d = grind
    (arith, word-again word ((b ∷ blanks) ++ rest) c w, rest_of-again is_blank (b ∷ blanks) rest all ends)

next-of_more : (text : List ℕ) (c x : Option Comparator) (words : List (Option Comparator))
    → IsDivision text (c ∷ x ∷ words) → HasMore text c (x ∷ words)
next-of_more text c x words d =
    grind (
      arith,
      more-behind text d.1.word d.1.blanks d.0 c (x ∷ words) d.1.whole d.1.first d.1.blank.some
          d.1.blank.all d.1.blanks_end d.2,
    )

-- a text has one division
pub division-unique : (text : List ℕ) (ws xs : List (Option Comparator)) → IsDivision text ws → IsDivision text xs
    → ws ≡ xs
division-unique text [] xs d e = absurd d
division-unique text (w ∷ ws) [] d e = absurd e
division-unique text (w ∷ []) (x ∷ []) d e = grind (arith, next-of_last text w d, next-of_last text x e)
division-unique text (w ∷ []) (x ∷ y ∷ xs) d e = grind (arith, next-of_more text x y xs e, next-of_last text w d)
division-unique text (w ∷ z ∷ ws) (x ∷ []) d e = grind (arith, next-of_more text w z ws d, next-of_last text x e)
division-unique text (w ∷ z ∷ ws) (x ∷ y ∷ xs) d e =
    let one = next-of_more text w z ws d in
    let two = next-of_more text x y xs e in
    let same : (w, one.b ∷ one.behind) ≡ (x, two.b ∷ two.behind) = sym one.next ∙ two.next in
    let behind : one.b ∷ one.behind ≡ two.b ∷ two.behind = ap (λ (p : Word). p.1) same in
    let first : w ≡ x = ap (λ (p : Word). p.0) same in
    let others : z ∷ ws ≡ y ∷ xs = division-unique (rest_of is_blank (two.b ∷ two.behind)) (z ∷ ws) (y ∷ xs)
    (subst (λ (l : List ℕ). IsDivision (rest_of is_blank l) (z ∷ ws)) behind one.division) two.division in grind arith

-- ---- a text read word by word

comparators-more : (c : Option Comparator) (words : List (Option Comparator))
    → comparators_of (c ∷ words) ≡ listed c ++ comparators_of words
comparators-more c words = grind arith

-- These comparators come before those of the rest: whatever division the rest has, the text has one with them first.
pub record Completes (text : List ℕ) (done : List Comparator) (rest : List ℕ) : Type 0 where
  pub whole : (words : List (Option Comparator)) → IsDivision rest words
      → (all : List (Option Comparator)) × IsDivision text all × (comparators_of all ≡ done ++ comparators_of words)

empty-ignored : IsDivision [] (None ∷ [])
empty-ignored = divide-last [] None (has-word [] None [] word-of_nothing)

-- nothing is left of the end of a text
pub division-of_end : (words : List (Option Comparator)) → IsDivision [] words → comparators_of words ≡ []
division-of_end words d = ap comparators_of (division-unique [] words (None ∷ []) d empty-ignored)

-- at the start nothing is read
pub completes-nothing : (text : List ℕ) → Completes text [] text
completes-nothing text = record { whole = λ words d. (words, d, refl) }

-- what divides a text divides another one with the same first word
same-first : (text other : List ℕ) → read_word text ≡ read_word other → (words : List (Option Comparator))
    → IsDivision other words → IsDivision text words
same-first text other same [] d = absurd d
same-first text other same (w ∷ []) d = divide-last text w (has-word text w [] (same ∙ next-of_last other w d))
same-first text other same (w ∷ x ∷ words) d =
    let more = next-of_more other w x words d in
    divide-more text w more.behind more.b (x ∷ words) (has-word text w (more.b ∷ more.behind) (same ∙ more.next))
    more.division

-- if no hyphen range without a left side is at the start, the whole text remains, without its leading blanks
pub completes-start : (text : List ℕ) → read_right text ≡ None → Completes text [] (rest_of is_blank text)
unfolding rest_of
completes-start [] none = completes-nothing []
completes-start (b ∷ rest) none = elim (cases_Bool (is_blank b)) [
  | inr solid ↦ rw solid (completes-nothing (b ∷ rest))
  | inl blank ↦ elim (word-after_blanks b rest blank none) [
    | inl ignored ↦ record {
      whole = λ words d. (
        None ∷ words,
        divide-more (b ∷ rest) None rest b words (has-word (b ∷ rest) None (b ∷ rest) ignored) d,
        refl,
      );
    }
    | inr same ↦ grind (arith, same-first)
  ]
]

-- a word and the blanks after it are read
pub completes-more : (text : List ℕ) (done : List Comparator) (rest : List ℕ) (c : Option Comparator) (behind : List ℕ)
    → Completes text done rest → read_word rest ≡ (c, behind)
    → Completes text (done ++ listed c) (rest_of is_blank behind)
unfolding rest_of
completes-more text done rest c [] completes read = record {
  whole = λ words d.
      let all = completes.whole (c ∷ []) (divide-last rest c (has-word rest c [] read)) in
      grind (arith, division-of_end words d, comparators-more c, append_assoc done (listed c));
}
completes-more text done rest c (b ∷ behind) completes read = record {
  whole = λ words d.
      let rest_divided = divide-more rest c behind b words (has-word rest c (b ∷ behind) read) d in
      let all = completes.whole (c ∷ words) rest_divided in grind (arith, comparators-more, append_assoc);
}

-- less is left then
pub next-shorter : (rest : List ℕ) (c : Option Comparator) (behind : List ℕ) → read_word rest ≡ (c, behind)
    → 0 < length rest → length (rest_of is_blank behind) < length rest
next-shorter rest c behind read some = rest-shorter rest c behind (has-word rest c behind read) some

-- a hyphen range without a left side is read, or none
pub completes-leading : (text : List ℕ) (right : ReadPartial) (leading : Option Comparator) (rest : List ℕ)
    → read_right text ≡ right → (leading, rest) ≡ leading_or_none right text
    → Completes text (listed leading) (rest_of is_blank rest)
completes-leading text None leading rest none read = grind (arith, completes-start)
completes-leading text (Some right) leading rest some read =
    completes-more text [] text leading rest (completes-nothing text) (word-leading text right some ∙ sym read)

-- all is read
pub completes-end : (text : List ℕ) (done : List Comparator) → Completes text done [] → IsAlternative text done
completes-end text done completes =
    let whole = completes.whole (None ∷ []) empty-ignored in grind (arith, append-nil done)

-- ---- the comparators of an alternative are one list

pub alternative-exists : (text : List ℕ) → (comparators : List Comparator) × IsAlternative text comparators
alternative-exists text =
    let d = divides text in
    (comparators_of d.0, record { words = d.0; divided = d.1; kept = refl })

pub alternative-unique : (text : List ℕ) (one other : List Comparator) → IsAlternative text one
    → IsAlternative text other → one ≡ other
alternative-unique text one other a b = grind (arith, division-unique)
