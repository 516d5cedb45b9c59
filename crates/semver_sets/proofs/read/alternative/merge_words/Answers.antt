use Rattle.std.proofs.lemmas.Grind.{common_steps}
use Rattle.std.proofs.Common.{◌≡◌, ◌≢◌, ◌<◌, ℕ, Bool, true, false, List, [], ◌++◌, Option, None, length, arith}
use Rattle.std.proofs.Common.{ap, get_or, refl, rules, sym, subst, ◌∙◌}
use Rattle.std.specs.Prelude.{◌==◌}
use Rattle.std.proofs.lemmas.Bool.{eqb-true, ne_eqb}
use Rattle.semver_texts.specs.Characters.{BeginsWithNo, is_blank}
use Rattle.semver_sets.specs.Comparator.{Comparator}
use Rattle.semver_sets.specs.Private.RangeViews.{IsCommonSpan, IsNarrowed}
use Rattle.semver_texts.specs.Reading.{begins, rest_of}
use Rattle.semver_sets.specs.Private.WordReading.{is_not_blank, leading_or_none, read_right, read_word}
use Rattle.semver_sets.specs.Private.WordViews.{listed}
use Rattle.semver_sets.proofs.Ranges.DivisionLemmas.{Completes, completes-end, completes-leading, completes-more}
use Rattle.semver_sets.proofs.Ranges.DivisionLemmas.{next-shorter}
use Rattle.semver_sets.proofs.Sets.Merging.{merged-none}
use Rattle.semver_sets.proofs.Words.WordViews.{ignored}
use Rattle.semver_texts.specs.Lemmas.Public.{begins-with_no, rest_of-no, rest_of-none}
use Rattle.semver_sets.proofs.read.alternative.merge_words.Goals as goal
use Rattle.semver_sets.proofs.read.alternative.merge_words.Goals.{in-32+in_ok-rest-in-32, in_default, in_default-2}

-- the remaining text after its blanks
left-is : (text rest left : List ℕ) (done : List Comparator) → Completes text done rest → left ≡ rest
    → Completes text done left
left-is text rest left done completes skipped = grind arith

-- begins with no blank
no-blank : (rest left : List ℕ) → left ≡ rest_of is_blank rest → BeginsWithNo is_blank left
no-blank rest left skipped = subst (λ (l : List ℕ). BeginsWithNo is_blank l) (sym skipped) (rest_of-no is_blank rest)

-- none of no comparators
none-common : (common : Option Comparator) → common ≡ None → IsCommonSpan [] common
none-common common h1 = grind arith

-- a text that begins with no blank begins with no hyphen without a left side
no-leading : (text : List ℕ) → begins is_blank text ≡ false → leading_or_none (read_right text) text ≡ (None, text)
unfolding read_right
no-leading text none = rw none refl

-- by its first byte
not-blank : (text : List ℕ) → (0 < length text → (get_or text 0 0 ≢ 32) × (get_or text 0 0 ≢ 9))
    → begins is_blank text ≡ false
not-blank text h1 = grind (arith, ne_eqb)

-- so nothing is passed over there
solid-start : (text : List ℕ) (common : Option Comparator)
    → (0 < length text → (get_or text 0 0 ≢ 32) × (get_or text 0 0 ≢ 9))
    → (text ≡ rest_of is_blank (leading_or_none (read_right text) text).1)
    × IsNarrowed common (leading_or_none (read_right text) text).0 common
solid-start text common other = grind (arith, not-blank, no-leading, rest_of-none, begins-with_no, merged-none)

pub loop-rest-init : goal.loop-rest-init
loop-rest-init c =
    let text = c.args.text.now in
    let word = leading_or_none (read_right text) text in
    let begun : (c.if-text-lt1.rest.now ≡ rest_of is_blank word.1)
    × IsNarrowed c.args.common.now word.0 c.if-text-lt1.common = elim c.if-text-lt1.branch [
      | in-32+in_ok-rest-in-32 w ↦ rw (w.rest-is, w.common-is) (
        w.in_ok-rest-in-32.ensures.rest,
        w.in_ok-rest-in-32.ensures.common,
      )
      | in_default w ↦ rw (w.rest-is, w.common-is) (solid-start text c.args.common.now (λ some. absurd (omega arith)))
      | in_default-2 w ↦ rw (w.rest-is, w.common-is)
          (solid-start text c.args.common.now (λ some. (search rules, search rules)))
    ] in
    let start = completes-leading text (read_right text) word.0 word.1 refl refl in
    record {
      done = listed word.0;
      read = left-is text (rest_of is_blank word.1) c.if-text-lt1.rest.now (listed word.0) start begun.0;
      is_common = begun.1 [] (none-common c.args.common.now c.requires);
      solid = no-blank word.1 c.if-text-lt1.rest.now begun.0;
    }

some-from_not_empty : (xs : List ℕ) (r : Bool) → r ≡ (length xs == 0) → r ≡ false → 0 < length xs
some-from_not_empty xs r h1 h2 = grind arith

none-from_empty : (xs : List ℕ) (r : Bool) → r ≡ (length xs == 0) → r ≡ true → xs ≡ []
none-from_empty xs r h1 h2 = grind (arith, common_steps, eqb-true)

pub begins_comparator-requires : goal.begins_comparator-requires
begins_comparator-requires c = c.loop-rest.invariant.solid

pub merge_word-requires : goal.merge_word-requires
merge_word-requires c = c.loop-rest.invariant.solid

-- a word that gives a comparator, or none
pub loop-rest-smaller-in_ok-rest : goal.loop-rest-smaller-in_ok-rest
loop-rest-smaller-in_ok-rest c =
    let rest = c.loop-rest.rest.now in
    let word = read_word rest in
    let some : 0 < length rest = some-from_not_empty rest c.is_empty.result c.is_empty.ensures c.loop-rest-test.true in
    subst (λ (l : List ℕ). length l < length rest) (sym c.in_ok-rest.ensures.rest)
    (next-shorter rest word.0 word.1 refl some)

pub loop-rest-preserved-in_ok-rest : goal.loop-rest-preserved-in_ok-rest
loop-rest-preserved-in_ok-rest c =
    let rest = c.loop-rest.rest.now in
    let word = read_word rest in
    let done = c.loop-rest.invariant.done in
    let more = completes-more c.args.text.now done rest word.0 word.1 c.loop-rest.invariant.read refl in
    record {
      done = done ++ listed word.0;
      read = left-is c.args.text.now (rest_of is_blank word.1) c.in_ok-rest.rest.now (done ++ listed word.0) more
          c.in_ok-rest.ensures.rest;
      is_common = c.in_ok-rest.ensures.common done c.loop-rest.invariant.is_common;
      solid = no-blank word.1 c.in_ok-rest.rest.now c.in_ok-rest.ensures.rest;
    }

-- a word that is passed over
pub loop-rest-smaller : goal.loop-rest-smaller
loop-rest-smaller c =
    let rest = c.loop-rest.rest.now in
    let some : 0 < length rest = some-from_not_empty rest c.is_empty.result c.is_empty.ensures c.loop-rest-test.true in
    let read = ignored rest (c.begins_comparator.ensures c.if-begins_comparator.false) in
    let same = c.skip_blanks-rest.ensures ∙ ap (rest_of is_blank) c.skip_to_blank.ensures in
    subst (λ (l : List ℕ). length l < length rest) (sym same)
    (next-shorter rest None (rest_of is_not_blank rest) (sym read) some)

pub loop-rest-preserved : goal.loop-rest-preserved
loop-rest-preserved c =
    let rest = c.loop-rest.rest.now in
    let done = c.loop-rest.invariant.done in
    let read = ignored rest (c.begins_comparator.ensures c.if-begins_comparator.false) in
    let same = c.skip_blanks-rest.ensures ∙ ap (rest_of is_blank) c.skip_to_blank.ensures in
    let more = completes-more c.args.text.now done rest None (rest_of is_not_blank rest) c.loop-rest.invariant.read
    (sym read) in
    record {
      done = done ++ [];
      read = left-is c.args.text.now (rest_of is_blank (rest_of is_not_blank rest)) c.skip_blanks-rest.result.now
          (done ++ []) more same;
      is_common = merged-none done c.loop-rest.common c.loop-rest.invariant.is_common;
      solid = no-blank (rest_of is_not_blank rest) c.skip_blanks-rest.result.now same;
    }

pub returns : goal.returns
returns c = grind (arith, none-from_empty, completes-end)
