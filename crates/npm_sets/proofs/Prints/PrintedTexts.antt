-- The characters of a printed version and of a printed word: all in ASCII, no white space and no bar.
use Rattle.std.proofs.Common.{◌≡◌, ◌∙◌, ◌<◌, ◌≤◌, ℕ, suc, zero, Bool, true, List, [], ◌∷◌, ◌++◌, map}
use Rattle.std.proofs.Common.{arith, refl, subst, sym}
use Rattle.std.proofs.lemmas.Bool.{and_from, and_parts}
use Rattle.std.proofs.lemmas.Bool.Decides.{nat_tests}
use Rattle.std.proofs.lemmas.List.Folds.{list_all-append}
use Rattle.std.specs.Fmt.{decimal}
use Rattle.std.specs.List.{AllByRecursion, join_with_byte, list_all}
use Rattle.std.specs.Prelude.{◌==◌, ◌||◌, IsAscii, nat_lt, not}
use Rattle.semver_texts.specs.Characters.{AreAll, bar, dot, hyphen, is_digit, is_identifier_character, plus}
use Rattle.semver_texts.specs.IdentifierText.{IsReadIdentifier}
use Rattle.semver_texts.specs.IdentifierValue.{IdentifierValue}
use Rattle.semver_texts.specs.Lemmas.Public.{IsTextVersion, decimal-digits, extras_text, print-whole}
use Rattle.semver_texts.specs.Print.{identifier_text, marked_text, version_text}
use Rattle.semver_texts.specs.Version.{VersionValue}
use Rattle.semver_texts.specs.declared.TheConstants.{MAX_SAFE_INTEGER}
use Rattle.npm_sets.specs.WordTexts.{is_solid}
use Rattle.npm_sets.proofs.Prints.PrintedPartials.{fits, identifier-printed}

-- ---- characters

-- a character of a printed version
abbrev pub is_print_character : ℕ → Bool
is_print_character b = is_identifier_character b || (b == dot) || (b == plus)

-- a character of a printed word: `>`, `<`, `=` and `*` too
abbrev pub is_word_character : ℕ → Bool
is_word_character b = is_print_character b || (b == 62) || (b == 60) || (b == 61) || (b == 42)

-- a character of a printed set: a space too
abbrev pub is_set_character : ℕ → Bool
is_set_character b = is_word_character b || (b == 32)

abbrev pub is_no_bar : ℕ → Bool
is_no_bar b = not (b == bar)

abbrev pub is_ascii : ℕ → Bool
is_ascii b = nat_lt b 128

identifier-print : (b : ℕ) → is_identifier_character b ≡ true → is_print_character b ≡ true
identifier-print b h = rw h refl

digit-print : (b : ℕ) → is_digit b ≡ true → is_print_character b ≡ true
digit-print b h = grind (arith, nat_tests)

print-word : (b : ℕ) → is_print_character b ≡ true → is_word_character b ≡ true
print-word b h = rw h refl

word-set : (b : ℕ) → is_word_character b ≡ true → is_set_character b ≡ true
word-set b h = rw h refl

word-solid : (b : ℕ) → is_word_character b ≡ true → is_solid b ≡ true
word-solid b h = grind (arith, nat_tests)

set-no_bar : (b : ℕ) → is_set_character b ≡ true → is_no_bar b ≡ true
set-no_bar b h = grind (arith, nat_tests)

set-ascii : (b : ℕ) → is_set_character b ≡ true → is_ascii b ≡ true
set-ascii b h = grind (arith, nat_tests)

ascii-small : (b : ℕ) → is_ascii b ≡ true → b < 128
ascii-small b h = grind (arith, nat_tests)

-- ---- all characters of a text

-- what one test lets through, another does
all-so : (test other : ℕ → Bool) → ((b : ℕ) → test b ≡ true → other b ≡ true) → (text : List ℕ) → AreAll test text
    → AreAll other text
all-so test other so [] all = refl
all-so test other so (b ∷ text) all =
    let parts = and_parts (test b) (list_all test text) all in
    and_from (other b) _ (so b parts.0) (all-so test other so text parts.1)

pub all-both : (test : ℕ → Bool) (one other : List ℕ) → AreAll test one → AreAll test other
    → AreAll test (one ++ other)
all-both test one other first second = list_all-append test one other ∙ and_from (list_all test one) _ first second

pub all-word : (text : List ℕ) → AreAll is_print_character text → AreAll is_word_character text
all-word = all-so is_print_character is_word_character print-word

pub all-set : (text : List ℕ) → AreAll is_word_character text → AreAll is_set_character text
all-set = all-so is_word_character is_set_character word-set

pub all-solid : (text : List ℕ) → AreAll is_word_character text → AreAll is_solid text
all-solid = all-so is_word_character is_solid word-solid

pub all-no_bar : (text : List ℕ) → AreAll is_set_character text → AreAll is_no_bar text
all-no_bar = all-so is_set_character is_no_bar set-no_bar

pub all-ascii : (text : List ℕ) → AreAll is_set_character text → AreAll is_ascii text
all-ascii = all-so is_set_character is_ascii set-ascii

pub in-ascii : (text : List ℕ) → AreAll is_ascii text → IsAscii text
in-ascii [] all i = omega arith
in-ascii (b ∷ text) all zero = ascii-small b (and_parts (is_ascii b) (list_all is_ascii text) all).0
in-ascii (b ∷ text) all (suc i) = in-ascii text (and_parts (is_ascii b) (list_all is_ascii text) all).1 i

-- ---- printed versions

decimal-characters : (n : ℕ) → n ≤ MAX_SAFE_INTEGER → AreAll is_print_character (decimal n)
decimal-characters n h = all-so is_digit is_print_character digit-print (decimal n) (decimal-digits n (fits n h))

identifier-characters : (i : IdentifierValue) → IsReadIdentifier i → AreAll is_print_character (identifier_text i)
identifier-characters i read =
    all-so is_identifier_character is_print_character identifier-print (identifier_text i)
    (identifier-printed i read).0.1

list-characters : (i : IdentifierValue) (is : List IdentifierValue) → AllByRecursion IsReadIdentifier (i ∷ is)
    → AreAll is_print_character (join_with_byte dot (map identifier_text (i ∷ is)))
list-characters i [] read = identifier-characters i read.0
list-characters i (j ∷ is) read =
    all-both is_print_character (identifier_text i) (dot ∷ join_with_byte dot (map identifier_text (j ∷ is)))
    (identifier-characters i read.0) (list-characters j is read.1)

marked-characters : (mark : ℕ) (is : List IdentifierValue) → is_print_character mark ≡ true
    → AllByRecursion IsReadIdentifier is → AreAll is_print_character (marked_text mark is)
marked-characters mark [] here read = refl
marked-characters mark (i ∷ is) here read =
    and_from (is_print_character mark) _ here (list-characters i is read)

extras-characters : (v : VersionValue) → IsTextVersion v → AreAll is_print_character (extras_text v)
extras-characters v is =
    all-both is_print_character (marked_text hyphen v.pre_release) (marked_text plus v.build)
    (marked-characters hyphen v.pre_release refl is.pre_release) (marked-characters plus v.build refl is.build)

pub print-characters : (v : VersionValue) → IsTextVersion v → AreAll is_print_character (version_text v)
print-characters v is =
    let test = is_print_character in
    let third : AreAll test (decimal v.patch ++ extras_text v) =
    all-both test (decimal v.patch) (extras_text v) (decimal-characters v.patch is.numbers.patch)
    (extras-characters v is) in
    let second : AreAll test (decimal v.minor ++ (dot ∷ (decimal v.patch ++ extras_text v))) =
    all-both test (decimal v.minor) (dot ∷ (decimal v.patch ++ extras_text v))
    (decimal-characters v.minor is.numbers.minor) third in
    subst (AreAll test) (sym (print-whole v))
    (all-both test (decimal v.major) (dot ∷ (decimal v.minor ++ (dot ∷ (decimal v.patch ++ extras_text v))))
    (decimal-characters v.major is.numbers.major) second)
