-- How long keys are, beside the texts of their versions.
use Rattle.std.proofs.Common.{◌≡◌, ◌≤◌, ◌<◌, ◌/◌, ◌%◌, ◌+◌, ◌*◌, ◌^◌, ◌-◌, ◌++◌, ◌==◌, ◌&&◌, Bool, true, false, ℕ, zero, suc, List, [], ◌∷◌}
use Rattle.std.proofs.Common.{refl, sym, ap, subst, arith, inl, inr, length, map, nat_lt, if◌then◌else◌, ◌∙◌}
use Rattle.std.proofs.lemmas.Grind.{common_steps}
use Rattle.std.proofs.lemmas.Int.Digits.{digits_value-lt}
use Rattle.std.proofs.lemmas.List.{length-append}
use Rattle.std.proofs.lemmas.List.Splits.{length-slice_split, slice_split-cons_no, slice_split-cons_yes}
use Rattle.std.specs.List.{AllByRecursion, list_all, onto_first, slice_split}
use Rattle.std.specs.Char.{digit_value}
use Rattle.std.specs.Str.Parse.{AllDigits, digits_value}
use Rattle.semver_texts.specs.Characters.{AreAll, BeginsWith, dot, is_digit, is_identifier_character, is_version_mark, mark_of}
use Rattle.semver_texts.specs.IdentifierText.{IsIdentifierList, IsIdentifierText, IsPrereleaseText, identifier_of, parts_of}
use Rattle.semver_texts.specs.IdentifierValue.{IdentifierValue, alphanumeric, numeric}
use Rattle.semver_texts.specs.NumberText.{IsNumberText, number_of}
use Rattle.semver_texts.specs.Version.{VersionValue}
use Rattle.semver_texts.specs.VersionText.{IsVersionText}
use Rattle.semver_keys.specs.IdentifierKey.{byte_key, identifier_key, identifiers_key, prerelease_key, text_key}
use Rattle.semver_keys.specs.NumberKey.{byte_count, long_number_key, lowest_bytes, number_key}
use Rattle.semver_keys.specs.VersionKey.{version_key}
use Rattle.semver_keys.proofs.NumberReading.{length-lowest}

-- ---- numbers

count-few : (k limit n : ℕ) → n < 256 ^ k → byte_count limit n ≤ k
unfolding byte_count
count-few k zero n h = omega arith
count-few zero (suc limit) n h = grind (arith, common_steps, h)
count-few (suc k) (suc limit) n h =
    let higher : n / 256 < 256 ^ k = omega (arith, h) in
    let rest = count-few k limit (n / 256) higher in grind (arith, rest)

-- two digits and more take fewer bytes
powers : (k : ℕ) → 10 ^ suc (suc k) ≤ 256 ^ suc k
powers zero = omega arith
powers (suc k) =
    let rest : 10 ^ suc (suc k) ≤ 256 ^ suc k = powers k in
    let ten : 10 ^ suc (suc (suc k)) ≡ 10 * 10 ^ suc (suc k) = grind arith in
    let high : 256 ^ suc (suc k) ≡ 256 * 256 ^ suc k = grind arith in
    omega (arith, rest, ten, high)

pub number-length : (d n : ℕ) → 0 < d → n < 10 ^ d → length (number_key n) ≤ d
unfolding number_key long_number_key
number-length zero n some h = absurd (omega (arith, some))
number-length (suc zero) n some h = grind (arith, common_steps, h)
number-length (suc (suc k)) n some h =
    let under : n < 256 ^ suc k = omega (arith, h, powers k) in
    let few = count-few (suc k) 8 n under in
    grind (arith, common_steps, few, length-lowest (byte_count 8 n) n)

-- ---- identifiers

digit-is : (b : ℕ) → is_digit b ≡ true → digit_value b < 10
digit-is b h = grind (arith, h)

pub all-digits : (text : List ℕ) → AreAll is_digit text → AllDigits 10 text
all-digits [] h = tt
all-digits (b ∷ bs) h = (digit-is b (grind (arith, h)), all-digits bs (grind (arith, h)))

pub digits-length : (text : List ℕ) → BeginsWith is_digit text → AreAll is_digit text
    → length (number_key (number_of text)) ≤ length text
digits-length [] some h = absurd some
digits-length (b ∷ bs) some h =
    number-length (length (b ∷ bs)) _ (omega arith) (digits_value-lt 10 (b ∷ bs) (all-digits (b ∷ bs) h))

-- a character of an identifier is written as it is
character-length : (b : ℕ) → is_identifier_character b ≡ true → length (byte_key b) ≡ 1
unfolding byte_key
character-length b h = grind (arith, common_steps, h)

text-length : (text : List ℕ) → AreAll is_identifier_character text → length (text_key text) ≡ length text + 1
unfolding text_key
text-length [] h = refl
text-length (b ∷ bs) h =
    let one = character-length b (grind (arith, h)) in
    let rest = text-length bs (grind (arith, h)) in
    omega (arith, length-append (byte_key b) (text_key bs), one, rest)

begins-digit : (text : List ℕ) → BeginsWith is_identifier_character text → AreAll is_digit text → BeginsWith is_digit text
begins-digit [] some h = absurd some
begins-digit (b ∷ bs) some h = grind (arith, h)

-- a text of several characters and what divides it from the next have two bytes where its key has three at most
identifier-length : (text : List ℕ) → IsIdentifierText text
    → 2 * length (identifier_key (identifier_of text)) ≤ 3 * (length text + 1)
unfolding identifier_key
identifier-length [] is = absurd is.0
identifier-length (b ∷ bs) is = by (is_digits) refl
  where
    text : List ℕ
    text = b ∷ bs

    is_digits : Bool
    is_digits = list_all is_digit text && nat_lt (number_of text) (2 ^ 64)

    by : (c : Bool) → is_digits ≡ c
        → 2 * length (identifier_key (if c then numeric (number_of text) else alphanumeric text)) ≤ 3 * (length text + 1)
    by true e = let all : AreAll is_digit text = grind (arith, e) in
        omega (arith, digits-length text (begins-digit text is.0 all) all)
    by false e = omega (arith, text-length text is.1)

-- the bytes of texts with one more for each
total : List (List ℕ) → ℕ
total [] = 0
total (text ∷ others) = length text + 1 + total others

identifiers-length : (texts : List (List ℕ)) → AllByRecursion IsIdentifierText texts
    → 2 * length (identifiers_key (map identifier_of texts)) ≤ 3 * total texts + 2
unfolding identifiers_key total
identifiers-length [] are = omega arith
identifiers-length (text ∷ others) are =
    omega (
      arith,
      identifier-length text are.0,
      identifiers-length others are.1,
      length-append (identifier_key (identifier_of text)) (identifiers_key (map identifier_of others)),
    )

total-onto : (b : ℕ) (texts : List (List ℕ)) → 0 < length texts → total (onto_first b texts) ≡ total texts + 1
unfolding total
total-onto b [] some = absurd (omega (arith, some))
total-onto b (text ∷ others) some = grind (arith, common_steps)

-- the parts of a list of identifiers, with one byte more for each, have one byte more than the list
parts-total : (text : List ℕ) → total (parts_of text) ≡ length text + 1
unfolding total
parts-total [] = refl
parts-total (b ∷ bs) = by (parts-total bs) (b == dot) refl
  where
    is_dot : ℕ → Bool
    is_dot c = c == dot

    by : total (slice_split is_dot bs) ≡ length bs + 1 → (c : Bool) → (b == dot) ≡ c
        → total (slice_split is_dot (b ∷ bs)) ≡ length (b ∷ bs) + 1
    by rest true e = ap total (slice_split-cons_yes is_dot b bs e) ∙ grind (arith, common_steps, rest)
    by rest false e =
        let some : 0 < length (slice_split is_dot bs) = omega (arith, length-slice_split is_dot bs) in
        ap total (slice_split-cons_no is_dot b bs e)
        ∙ grind (arith, common_steps, total-onto b (slice_split is_dot bs) some, rest)

-- ---- versions

list-length : (list : List ℕ) (ids : List IdentifierValue) → IsIdentifierList list ids
    → 2 * length (identifiers_key ids) ≤ 3 * length list + 5
list-length list ids is = rw is.values (omega (arith, identifiers-length (parts_of list) is.parts, parts-total list))

prerelease-length : (text : List ℕ) (ids : List IdentifierValue) → IsPrereleaseText text ids
    → 2 * length (prerelease_key ids) ≤ 3 * length text + 5
unfolding prerelease_key
prerelease-length text [] is = omega arith
prerelease-length text (x ∷ xs) (list, inl whole, is) =
    omega (arith, list-length list (x ∷ xs) is, ap length whole)
prerelease-length text (x ∷ xs) (list, inr (whole, begins), is) =
    omega (arith, list-length list (x ∷ xs) is, ap length whole)

part-length : (text : List ℕ) (n : ℕ) → IsNumberText text n → length (number_key n) ≤ length text
part-length text n is = rw is.value (digits-length text is.some is.digits)

begins-long : (text : List ℕ) → BeginsWith is_digit text → 1 ≤ length text
begins-long [] some = absurd some
begins-long (b ∷ bs) some = omega arith

-- the key of a version that a text writes has at most 382 bytes
pub version-length : (text : List ℕ) (v : VersionValue) → IsVersionText text v → length (version_key v) ≤ 382
unfolding version_key
version-length text v is =
    let it = is.fields.read in
    let pre = it.extras_text in
    omega (
      arith,
      is.short,
      ap length is.fields.whole,
      ap length it.whole,
      ap length pre.whole,
      length-append (mark_of is_version_mark text) (is.fields.blanks ++ is.fields.unmarked),
      length-append is.fields.blanks is.fields.unmarked,
      length-append it.first (dot ∷ (it.second ++ (dot ∷ (it.third ++ it.extras)))),
      length-append it.second (dot ∷ (it.third ++ it.extras)),
      length-append it.third it.extras,
      length-append pre.prefix pre.rest,
      length-append (number_key v.major) (number_key v.minor ++ (number_key v.patch ++ prerelease_key v.pre_release)),
      length-append (number_key v.minor) (number_key v.patch ++ prerelease_key v.pre_release),
      length-append (number_key v.patch) (prerelease_key v.pre_release),
      part-length it.first v.major it.major_text,
      part-length it.second v.minor it.minor_text,
      part-length it.third v.patch it.patch_text,
      begins-long it.first it.major_text.some,
      begins-long it.second it.minor_text.some,
      begins-long it.third it.patch_text.some,
      prerelease-length pre.prefix v.pre_release pre.first,
    )
