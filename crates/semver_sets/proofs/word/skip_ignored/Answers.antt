use Rattle.std.proofs.Common.{◌≡◌, ◌<◌, ℕ, Bool, false, List, [], None, length, arith, ap, sym, subst, ◌∙◌}
use Rattle.std.specs.Prelude.{◌==◌}
use Rattle.semver_texts.specs.Characters.{is_blank}
use Rattle.semver_sets.specs.Comparator.{Comparator}
use Rattle.semver_sets.specs.Division.{IsAlternative}
use Rattle.semver_texts.specs.Reading.{rest_of}
use Rattle.semver_sets.specs.Private.WordReading.{is_not_blank, read_word}
use Rattle.semver_sets.proofs.Ranges.DivisionLemmas.{completes-more, completes-nothing, next-shorter}
use Rattle.semver_texts.specs.Lemmas.Public.{rest_of-no}
use Rattle.semver_sets.proofs.Words.WordViews.{ignored}
use Rattle.semver_sets.proofs.word.skip_ignored.Goals as goal

-- the text writes what the words after it write
later-writes : (text behind : List ℕ) → read_word text ≡ (None, behind) → (comparators : List Comparator)
    → IsAlternative (rest_of is_blank behind) comparators → IsAlternative text comparators
later-writes text behind read comparators a =
    let more = completes-more text [] text None behind (completes-nothing text) read in
    let all = more.whole a.words a.divided in
    record { words = all.0; divided = all.1; kept = a.kept ∙ sym all.2 }

some-from_not_empty : (xs : List ℕ) (r : Bool) → r ≡ (length xs == 0) → r ≡ false → 0 < length xs
some-from_not_empty xs r h1 h2 = grind arith

pub words-smaller : goal.words-smaller
words-smaller c =
    let rest = c.words.rest.now in
    let some : 0 < length rest = some-from_not_empty rest c.is_empty.result c.is_empty.ensures c.words-test.true in
    let read = sym (ignored rest (c.begins_comparator.ensures c.if-not-begins_comparator.true)) in
    let shorter = next-shorter rest None (rest_of is_not_blank rest) read some in
    let same = c.skip_blanks-rest.ensures ∙ ap (rest_of is_blank) c.skip_to_blank.ensures in
    subst (λ (l : List ℕ). length l < length rest) (sym same) shorter

pub words-preserved : goal.words-preserved
words-preserved c = grind (arith, ignored, rest_of-no, later-writes)
