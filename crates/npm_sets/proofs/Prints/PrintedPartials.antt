-- The print of a version is a partial of npm's grammar, in strict form too.
use Rattle.std.proofs.Common.{◌≡◌, ◌∙◌, ◌<◌, ◌≤◌, ◌^◌, ℕ, Bool, true, false, List, [], ◌∷◌, Some, Ok, map}
use Rattle.std.proofs.Common.{ap, arith, get_or, length, refl, subst, sym}
use Rattle.std.proofs.lemmas.Bool.{and_from, and_parts, lt-ltb, ltb-true}
use Rattle.std.proofs.lemmas.Bool.Decides.{nat_tests}
use Rattle.std.proofs.lemmas.Fmt.{first_decimal, length-decimal-le}
use Rattle.std.specs.Fmt.{decimal}
use Rattle.std.specs.List.{AllByRecursion, join_with_byte, list_all}
use Rattle.std.specs.Prelude.{nat_lt}
use Rattle.semver_texts.specs.Characters.{AreAll, BeginsWith, dot, hyphen, is_digit, is_identifier_character, plus}
use Rattle.semver_texts.specs.IdentifierText.{IsBuildText, IsIdentifierList, IsIdentifierText, IsPrereleaseText}
use Rattle.semver_texts.specs.IdentifierText.{IsReadIdentifier, identifier_of, parts_of}
use Rattle.semver_texts.specs.IdentifierValue.{IdentifierValue, alphanumeric, numeric}
use Rattle.semver_texts.specs.Lemmas.Public.{IsTextVersion, decimal-begins, decimal-digits, decimal-value}
use Rattle.semver_texts.specs.Lemmas.Public.{extras_text, extras_text-no_digit, parts-alone, parts-before, print-whole}
use Rattle.semver_texts.specs.NumberText.{IsNumberText}
use Rattle.semver_texts.specs.Print.{identifier_text, marked_text, version_text}
use Rattle.semver_texts.specs.Version.{VersionValue}
use Rattle.semver_texts.specs.VersionText.{HasThreeParts}
use Rattle.semver_texts.specs.declared.TheConstants.{MAX_SAFE_INTEGER}
use Rattle.semver_sets.specs.PartialText.{IsComponentText, Partial, three}
use Rattle.npm_sets.specs.NpmReadingBack.{HasNpmPrint, IsStrictIdentifier}
use Rattle.npm_sets.specs.PartialGrammar.{IsNpmPartialText, IsStrictPrerelease, IsUnpadded}
use Rattle.npm_sets.specs.PartialGrammar.{is_padded_number, is_unpadded}
use Rattle.npm_sets.specs.PartialTexts.{partial_of}
use Rattle.npm_sets.proofs.Partials.PartialReading.{read_as_written}

-- a version as a full partial
abbrev pub full_of : VersionValue → Partial
full_of v = record {
  major = Some v.major;
  minor = Some v.minor;
  patch = Some v.patch;
  pre_release = v.pre_release;
  build = v.build;
}

-- ---- numbers

not-padded : (text : List ℕ) → 48 < get_or text 0 0 → is_padded_number text ≡ false
not-padded [] h = refl
not-padded (b ∷ []) h = refl
not-padded (b ∷ c ∷ rest) h = grind (arith, nat_tests)

short-not_padded : (text : List ℕ) → length text ≤ 1 → is_padded_number text ≡ false
short-not_padded [] h = refl
short-not_padded (b ∷ []) h = refl
short-not_padded (b ∷ c ∷ rest) h = absurd (omega (arith, h))

decimal-unpadded : (n : ℕ) → n < 2 ^ 64 → IsUnpadded (decimal n)
decimal-unpadded n small = grind (arith, short-not_padded, length-decimal-le, not-padded, first_decimal)

pub fits : (n : ℕ) → n ≤ MAX_SAFE_INTEGER → n < 2 ^ 64
fits n h = omega (arith, h)

decimal-number : (n : ℕ) → n ≤ MAX_SAFE_INTEGER → IsNumberText (decimal n) n
decimal-number n h = record {
  some = decimal-begins n (fits n h);
  digits = decimal-digits n (fits n h);
  value = sym (decimal-value n (fits n h));
  limit = h;
}

-- ---- identifiers

digit-character : (b : ℕ) → is_digit b ≡ true → is_identifier_character b ≡ true
digit-character b h = rw h refl

characters-of : (text : List ℕ) → AreAll is_digit text → AreAll is_identifier_character text
characters-of [] all = refl
characters-of (b ∷ text) all =
    let parts = and_parts (is_digit b) (list_all is_digit text) all in
    and_from (is_identifier_character b) _ (digit-character b parts.0) (characters-of text parts.1)

-- the print of an identifier is an identifier text of it
abbrev pub IsPrinted : IdentifierValue → Type 0
IsPrinted i = IsIdentifierText (identifier_text i) × (identifier_of (identifier_text i) ≡ i)

decimal-printed : (n : ℕ) → n < 2 ^ 64 → IsPrinted (numeric n)
decimal-printed n small =
    let all = decimal-digits n small in
    let fits : nat_lt n (2 ^ 64) ≡ true = lt-ltb _ _ small in (
      (begins-so (decimal n) (decimal-begins n small), characters-of (decimal n) all),
      rw (all, decimal-value n small, fits) refl,
    )
  where
    begins-so : (text : List ℕ) → BeginsWith is_digit text → BeginsWith is_identifier_character text
    begins-so [] h = h
    begins-so (b ∷ text) h = digit-character b h

text-printed : (text : List ℕ) → IsIdentifierText text → IsPrinted (identifier_of text)
text-printed text is = grind (arith, and_parts, decimal-printed, ltb-true)

pub identifier-printed : (i : IdentifierValue) → IsReadIdentifier i → IsPrinted i
identifier-printed i read = subst IsPrinted read.2 (text-printed read.0 read.1)

-- the prints of identifiers, joined by dots, have just these parts
parts-printed : (i : IdentifierValue) (is : List IdentifierValue) → AllByRecursion IsReadIdentifier (i ∷ is)
    → parts_of (join_with_byte dot (map identifier_text (i ∷ is))) ≡ map identifier_text (i ∷ is)
parts-printed i [] read = parts-alone (identifier_text i) (identifier-printed i read.0).0.1
parts-printed i (j ∷ is) read = grind (arith, parts-printed j is, parts-before, identifier-printed)

identifiers-texts : (is : List IdentifierValue) → AllByRecursion IsReadIdentifier is
    → AllByRecursion IsIdentifierText (map identifier_text is)
identifiers-texts [] read = tt
identifiers-texts (i ∷ is) read = ((identifier-printed i read.0).0, identifiers-texts is read.1)

identifiers-values : (is : List IdentifierValue) → AllByRecursion IsReadIdentifier is
    → is ≡ map identifier_of (map identifier_text is)
identifiers-values [] read = refl
identifiers-values (i ∷ is) read = grind (arith, identifiers-values is, identifier-printed)

list-printed : (i : IdentifierValue) (is : List IdentifierValue) → AllByRecursion IsReadIdentifier (i ∷ is)
    → IsIdentifierList (join_with_byte dot (map identifier_text (i ∷ is))) (i ∷ is)
list-printed i is read =
    grind (arith, parts-printed i is read, identifiers-texts (i ∷ is) read, identifiers-values (i ∷ is) read)

prerelease-printed : (is : List IdentifierValue) → AllByRecursion IsReadIdentifier is
    → IsPrereleaseText (marked_text hyphen is) is
prerelease-printed [] read = refl
prerelease-printed (i ∷ is) read = grind (arith, list-printed i is read)

build-printed : (is : List IdentifierValue) → AllByRecursion IsReadIdentifier is → IsBuildText (marked_text plus is) is
build-printed [] read = refl
build-printed (i ∷ is) read = grind (arith, list-printed)

-- ---- strict form

identifier-unpadded : (i : IdentifierValue) → IsReadIdentifier i → IsStrictIdentifier i → IsUnpadded (identifier_text i)
identifier-unpadded (numeric n) read strict = decimal-unpadded n (number-fits n read)
  where
    number-fits : (n : ℕ) → IsReadIdentifier (numeric n) → n < 2 ^ 64
    number-fits n read = grind (arith, ltb-true, and_parts)
identifier-unpadded (alphanumeric text) read strict = strict

all-unpadded : (is : List IdentifierValue) → AllByRecursion IsReadIdentifier is → AllByRecursion IsStrictIdentifier is
    → list_all is_unpadded (map identifier_text is) ≡ true
all-unpadded [] read strict = refl
all-unpadded (i ∷ is) read strict =
    and_from (is_unpadded (identifier_text i)) _ (identifier-unpadded i read.0 strict.0)
    (all-unpadded is read.1 strict.1)

prerelease-strict : (is : List IdentifierValue) → AllByRecursion IsReadIdentifier is
    → AllByRecursion IsStrictIdentifier is → IsStrictPrerelease (marked_text hyphen is)
prerelease-strict [] read strict = tt
prerelease-strict (i ∷ is) read strict =
    (refl, ap (list_all is_unpadded) (parts-printed i is read) ∙ all-unpadded (i ∷ is) read strict)

-- ---- versions

parts-of_print : (v : VersionValue) → IsTextVersion v
    → HasThreeParts IsComponentText (version_text v) (full_of v).major (full_of v).minor (full_of v).patch
    (full_of v).pre_release (full_of v).build
parts-of_print v is = record {
  first = decimal v.major;
  second = decimal v.minor;
  third = decimal v.patch;
  extras = extras_text v;
  whole = print-whole v;
  major_text = decimal-number v.major is.numbers.major;
  minor_text = decimal-number v.minor is.numbers.minor;
  patch_text = decimal-number v.patch is.numbers.patch;
  digits_end = λ digit. extras_text-no_digit v.pre_release v.build;
  extras_text = record {
    prefix = marked_text hyphen v.pre_release;
    rest = marked_text plus v.build;
    whole = refl;
    first = prerelease-printed v.pre_release is.pre_release;
    second = build-printed v.build is.build;
  };
}

-- the print is read as the full partial
pub print-partial : (loose : Bool) (v : VersionValue) → IsTextVersion v → HasNpmPrint loose v
    → partial_of loose (version_text v) ≡ Ok (full_of v)
unfolding parts-of_print
print-partial loose v is print = (read_as_written loose (version_text v) (full_of v)).1 (print.short, written)
  where
    written : IsNpmPartialText loose (version_text v) (full_of v)
    written = record {
      marks = [];
      unmarked = version_text v;
      whole = refl;
      all = refl;
      components = three (parts-of_print v is);
      strict = λ form. (
        decimal-unpadded v.major (fits v.major is.numbers.major),
        decimal-unpadded v.minor (fits v.minor is.numbers.minor),
        decimal-unpadded v.patch (fits v.patch is.numbers.patch),
        prerelease-strict v.pre_release is.pre_release (print.strict form),
      );
    }
