-- The print of a version is coerced to the release with its triple.
use Rattle.semver_texts.specs.Lemmas.Public.{decimal-begins, decimal-value}
use Rattle.std.proofs.Common.{◌≡◌, ◌+◌, ◌<◌, ◌≤◌, ◌^◌, ℕ, false, List, [], ◌∷◌, ◌++◌, length, get_or, refl}
use Rattle.std.proofs.Common.{sym, ap, ◌∙◌, subst, arith, append_assoc, length-append, lit<}
use Rattle.std.proofs.Math.Seq.{get_or-append_seam}
use Rattle.std.proofs.lemmas.Fmt.{decimal_nonempty, first_decimal, length-decimal-le}
use Rattle.std.specs.Fmt.{decimal}
use Rattle.std.specs.Prelude.{slice_index, slice_range}
use Rattle.semver_texts.specs.declared.TheConstants.{MAX_SAFE_INTEGER}
use Rattle.semver_texts.specs.Characters.{BeginsWithNo, dot, is_digit}
use Rattle.npm_semver.specs.Coerce.{IsCoerced, IsNumberAt, IsStrictNumber, is_digit_at}
use Rattle.npm_semver.specs.StrictVersionText.{has_zero_in_front}
use Rattle.semver_texts.specs.Version.{VersionValue, release}
use Rattle.npm_semver.specs.CoerceLaws.{PrintIsCoerced}
use Rattle.semver_texts.specs.Lemmas.Public.{decimal-digits}
use Rattle.semver_texts.specs.Lemmas.Public.{extras_text, extras_text-no_digit, print-whole}
use Rattle.npm_semver.proofs.Versions.ChosenPieces.{first_found}
use Rattle.npm_semver.proofs.Versions.NumberTexts.{number_at, range_at}
use Rattle.npm_semver.proofs.Versions.Pieces.{three_from}
use Rattle.npm_semver.proofs.Versions.StrictNumbers.{is_strict}

-- ---- the digits of a number

no_zero : (text : List ℕ) → 48 < get_or text 0 0 → has_zero_in_front text ≡ false
no_zero text h = grind arith

short_no_zero : (text : List ℕ) → length text ≤ 1 → has_zero_in_front text ≡ false
short_no_zero text h = grind arith

no_zero_decimal : (n : ℕ) → n < 2 ^ 64 → has_zero_in_front (decimal n) ≡ false
no_zero_decimal n small = grind (arith, short_no_zero, length-decimal-le, no_zero, first_decimal)

fits : (n : ℕ) → n ≤ MAX_SAFE_INTEGER → n < 2 ^ 64
fits n h = omega (arith, h)

decimal_short : (n : ℕ) → n ≤ MAX_SAFE_INTEGER → length (decimal n) ≤ 16
decimal_short n h = length-decimal-le 16 n (lit< tt) (omega (arith, h)) (fits n h)

decimal_strict : (n : ℕ) → n ≤ MAX_SAFE_INTEGER → IsStrictNumber (decimal n) n
decimal_strict n h = grind (arith, is_strict, no_zero_decimal, fits, decimal-begins, decimal-digits, decimal-value)

-- the number is from `start` up to `end`, and its text is this one
record IsWritten (text : List ℕ) (start end : ℕ) (digits : List ℕ) : Type 0 where
  number : IsNumberAt text start end
  range : slice_range text start end ≡ digits

moved : (text other digits : List ℕ) (start from end to : ℕ) → text ≡ other → start ≡ from → end ≡ to
    → IsWritten text start end digits → IsWritten other from to digits
moved text other digits start from end to e f g h = grind arith

-- a number is where it is written, if no digit comes before or after it
decimal_at : (before rest : List ℕ) (n : ℕ) → n ≤ MAX_SAFE_INTEGER → BeginsWithNo is_digit rest
    → ((place : ℕ) → place + 1 ≡ length before → is_digit_at (before ++ (decimal n ++ rest)) place ≡ false)
    → IsWritten (before ++ (decimal n ++ rest)) (length before) (length before + length (decimal n)) (decimal n)
decimal_at before rest n h ends alone = record {
  number = number_at before (decimal n) rest (decimal_nonempty n (fits n h)) (decimal_short n h)
      (decimal-digits n (fits n h)) ends alone;
  range = range_at before (decimal n) rest;
}

-- ---- three numbers with dots between them, and what follows them

module _ (a b c : ℕ) (rest : List ℕ) where
  abbrev text : List ℕ
  text = decimal a ++ (dot ∷ (decimal b ++ (dot ∷ (decimal c ++ rest))))

  abbrev first_place : ℕ
  first_place = length (decimal a)

  abbrev second_place : ℕ
  second_place = first_place + 1 + length (decimal b)

  abbrev third_place : ℕ
  third_place = second_place + 1 + length (decimal c)

  -- the texts before the second number, and before the third
  abbrev to_second : List ℕ
  to_second = decimal a ++ (dot ∷ [])

  abbrev to_third : List ℕ
  to_third = to_second ++ (decimal b ++ (dot ∷ []))

  second_length : length to_second ≡ first_place + 1
  second_length = length-append (decimal a) (dot ∷ [])

  third_length : length to_third ≡ second_place + 1
  third_length =
      omega (
        arith,
        length-append to_second (decimal b ++ (dot ∷ [])),
        length-append (decimal b) (dot ∷ []),
        second_length,
      )

  from_second : to_second ++ (decimal b ++ (dot ∷ (decimal c ++ rest))) ≡ text
  from_second = append_assoc (decimal a) (dot ∷ []) (decimal b ++ (dot ∷ (decimal c ++ rest)))

  from_third : to_third ++ (decimal c ++ rest) ≡ text
  from_third =
      append_assoc to_second (decimal b ++ (dot ∷ [])) (decimal c ++ rest)
      ∙ ap (λ (l : List ℕ). to_second ++ l) (append_assoc (decimal b) (dot ∷ []) (decimal c ++ rest))
      ∙ from_second

  first_dot : slice_index text first_place ≡ dot
  first_dot = get_or-append_seam (decimal a) dot (decimal b ++ (dot ∷ (decimal c ++ rest))) 0

  second_dot : slice_index text second_place ≡ dot
  second_dot =
      let whole : (to_second ++ decimal b) ++ (dot ∷ (decimal c ++ rest)) ≡ text =
      append_assoc to_second (decimal b) (dot ∷ (decimal c ++ rest)) ∙ from_second in
      let place : length (to_second ++ decimal b) ≡ second_place =
      omega (arith, length-append to_second (decimal b), second_length) in
      subst (λ (n : ℕ). slice_index text n ≡ dot) place
      (subst (λ (l : List ℕ). slice_index l (length (to_second ++ decimal b)) ≡ dot) whole
      (get_or-append_seam (to_second ++ decimal b) dot (decimal c ++ rest) 0))

  -- no digit comes before a number
  after_dot : (whole : List ℕ) (dotted size : ℕ) → whole ≡ text → slice_index text dotted ≡ dot → size ≡ dotted + 1
      → (place : ℕ) → place + 1 ≡ size → is_digit_at whole place ≡ false
  after_dot whole dotted size e point f place g = grind arith

  first_there : a ≤ MAX_SAFE_INTEGER → IsWritten text 0 first_place (decimal a)
  first_there h =
      moved text text (decimal a) 0 0 (0 + first_place) first_place refl refl (omega arith)
      (decimal_at [] (dot ∷ (decimal b ++ (dot ∷ (decimal c ++ rest)))) a h refl (λ place e. absurd (omega (arith, e))))

  second_there : b ≤ MAX_SAFE_INTEGER → IsWritten text (first_place + 1) second_place (decimal b)
  second_there h =
      moved (to_second ++ (decimal b ++ (dot ∷ (decimal c ++ rest)))) text (decimal b) (length to_second)
      (first_place + 1) (length to_second + length (decimal b)) second_place from_second second_length
      (ap (λ (n : ℕ). n + length (decimal b)) second_length)
      (decimal_at to_second (dot ∷ (decimal c ++ rest)) b h refl
      (after_dot (to_second ++ (decimal b ++ (dot ∷ (decimal c ++ rest)))) first_place (length to_second) from_second
      first_dot second_length))

  third_there : c ≤ MAX_SAFE_INTEGER → BeginsWithNo is_digit rest
      → IsWritten text (second_place + 1) third_place (decimal c)
  third_there h ends =
      moved (to_third ++ (decimal c ++ rest)) text (decimal c) (length to_third) (second_place + 1)
      (length to_third + length (decimal c)) third_place from_third third_length
      (ap (λ (n : ℕ). n + length (decimal c)) third_length)
      (decimal_at to_third rest c h ends
      (after_dot (to_third ++ (decimal c ++ rest)) second_place (length to_third) from_third second_dot third_length))

  numbers_coerced : a ≤ MAX_SAFE_INTEGER → b ≤ MAX_SAFE_INTEGER → c ≤ MAX_SAFE_INTEGER → BeginsWithNo is_digit rest
      → IsCoerced false text (release a b c)
  numbers_coerced f g h ends =
      let first = first_there f in
      let second = second_there g in
      let third = third_there h ends in
      let found = first_found text 0 first_place third_place _ (record {
        number = first.number;
        after = omega arith;
        first = λ start end from other. omega arith;
      }) (three_from text 0 first_place second_place third_place first.number first_dot second.number second_dot
      third.number) in
      record {
        start = found.0;
        end = found.1;
        numbers = slice_range text 0 first_place
            ∷ slice_range text (first_place + 1) second_place
            ∷ slice_range text (second_place + 1) third_place
            ∷ [];
        chosen = found.2;
        version = (
          a,
          b,
          c,
          subst (λ (l : List ℕ). IsStrictNumber l a) (sym first.range) (decimal_strict a f),
          subst (λ (l : List ℕ). IsStrictNumber l b) (sym second.range) (decimal_strict b g),
          subst (λ (l : List ℕ). IsStrictNumber l c) (sym third.range) (decimal_strict c h),
          refl,
        );
      }

-- ---- the print

pub print_coerced : (v : VersionValue) → PrintIsCoerced v
print_coerced v h =
    subst (λ (l : List ℕ). IsCoerced false l (release v.major v.minor v.patch)) (sym (print-whole v))
    (numbers_coerced v.major v.minor v.patch (extras_text v) h.major h.minor h.patch
    (extras_text-no_digit v.pre_release v.build))
