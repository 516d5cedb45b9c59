-- A number that is written in a text, and the texts around it.
use Rattle.std.proofs.Common.{◌≡◌, ◌+◌, ◌-◌, ◌<◌, ◌≤◌, ℕ, true, false, List, ◌++◌, length, get_or, take, drop}
use Rattle.std.proofs.Common.{ap, ◌∙◌, subst, arith, length-append}
use Rattle.std.proofs.Math.Seq.{drop-append_seam, take-append_seam}
use Rattle.std.proofs.lemmas.List.{get_or-append-add, get_or_append_left}
use Rattle.std.proofs.lemmas.List.Folds.{list_all_at}
use Rattle.std.specs.Prelude.{slice_range}
use Rattle.semver_texts.specs.Characters.{AreAll, BeginsWithNo, is_digit}
use Rattle.npm_semver.specs.Coerce.{IsNumberAt, is_digit_at}

digit_in : (digits : List ℕ) (k : ℕ) → AreAll is_digit digits → k < length digits
    → is_digit (get_or digits k 0) ≡ true
digit_in digits k all below = grind (arith, get_or, list_all_at)

no_digit : (rest : List ℕ) → BeginsWithNo is_digit rest → is_digit (get_or rest 0 0) ≡ false
no_digit rest h = grind arith

module _ (before digits rest : List ℕ) where
  -- the digit so many places after the texts before
  inside : (k : ℕ) → AreAll is_digit digits → k < length digits
      → is_digit_at (before ++ (digits ++ rest)) (length before + k) ≡ true
  inside k all below = grind (arith, get_or-append-add, get_or_append_left, digit_in)

  behind : BeginsWithNo is_digit rest
      → is_digit_at (before ++ (digits ++ rest)) (length before + length digits) ≡ false
  behind h = grind (arith, get_or, get_or-append-add, no_digit)

  -- it is a number there
  pub number_at : 0 < length digits → length digits ≤ 16 → AreAll is_digit digits → BeginsWithNo is_digit rest
      → ((place : ℕ) → place + 1 ≡ length before → is_digit_at (before ++ (digits ++ rest)) place ≡ false)
      → IsNumberAt (before ++ (digits ++ rest)) (length before) (length before + length digits)
  number_at some short all ends alone = record {
    within = omega (arith, length-append before (digits ++ rest), length-append digits rest);
    some = omega (arith, some);
    short = omega (arith, short);
    digits = λ place from to.
        let k : length before + (place - length before) ≡ place = omega (arith, from) in
        subst (λ (n : ℕ). is_digit_at (before ++ (digits ++ rest)) n ≡ true) k
        (inside (place - length before) all (omega (arith, from, to)));
    before = alone;
    after = behind ends;
  }

  -- and its text is there
  pub range_at : slice_range (before ++ (digits ++ rest)) (length before) (length before + length digits) ≡ digits
  range_at =
      let span : length before + length digits - length before ≡ length digits = omega arith in
      ap (λ (n : ℕ). take n (drop (length before) (before ++ (digits ++ rest)))) span
      ∙ ap (take (length digits)) (drop-append_seam before (digits ++ rest))
      ∙ take-append_seam digits rest
