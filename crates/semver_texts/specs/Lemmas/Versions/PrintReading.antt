-- The print of a version of which a text can write the numbers and the identifiers is such a text.
use Rattle.std.proofs.Common.{◌≡◌, ◌≤◌, ℕ, Bool, true, false, List, [], ◌∷◌, ◌++◌, map, length}
use Rattle.std.proofs.Common.{append_assoc, arith, refl, subst}
use Rattle.std.proofs.lemmas.Bool.{and_parts, ltb-true}
use Rattle.std.specs.Fmt.{decimal}
use Rattle.std.specs.List.{AllByRecursion, join_with_byte}
use Rattle.semver_texts.specs.declared.TheConstants.{MAX_LENGTH}
use Rattle.semver_texts.specs.Characters.{BeginsWith, BeginsWithNo, dot, hyphen, is_digit}
use Rattle.semver_texts.specs.Characters.{mark_of, plus}
use Rattle.semver_texts.specs.IdentifierText.{IsBuildText, IsIdentifierList, IsIdentifierText, IsPrereleaseText}
use Rattle.semver_texts.specs.IdentifierText.{identifier_of, parts_of}
use Rattle.semver_texts.specs.IdentifierValue.{IdentifierValue}
use Rattle.semver_texts.specs.Print.{identifier_text, marked_text, version_text}
use Rattle.semver_texts.specs.IdentifierText.{IsReadIdentifier}
use Rattle.semver_texts.specs.Version.{VersionValue}
use Rattle.semver_texts.specs.VersionText.{IsMarked, IsUnmarkedVersion, IsVersionText}
use Rattle.semver_texts.specs.Lemmas.Texts.DecimalReading.{decimal-begins, decimal-digits, decimal-identifier}
use Rattle.semver_texts.specs.Lemmas.Texts.DecimalReading.{decimal-value}
use Rattle.semver_texts.specs.Lemmas.Texts.ListReading.{parts-alone, parts-before}
use Rattle.semver_texts.specs.Lemmas.Versions.ReadIdentifiers.{build-read, prerelease-read}
use Rattle.semver_texts.specs.Lemmas.Texts.Prefixes.{begins-append}
use Rattle.semver_texts.specs.Lemmas.Texts.Characters.{digit-no_version_mark}
use Rattle.semver_texts.specs.ReadingBack.{HasText, HasTextNumbers, VersionReadsBack}

-- ---- identifiers

-- the print of the identifier is an identifier text of it
abbrev IsPrinted : IdentifierValue → Type 0
IsPrinted i = IsIdentifierText (identifier_text i) × (identifier_of (identifier_text i) ≡ i)

text-printed : (text : List ℕ) → IsIdentifierText text → IsPrinted (identifier_of text)
text-printed text is = grind (arith, and_parts, decimal-identifier, ltb-true)

identifier-printed : (i : IdentifierValue) → IsReadIdentifier i → IsPrinted i
identifier-printed i read = subst IsPrinted read.2 (text-printed read.0 read.1)

-- the prints of identifiers, joined by dots, have just these parts
parts-printed : (i : IdentifierValue) (is : List IdentifierValue) → AllByRecursion IsReadIdentifier (i ∷ is)
    → parts_of (join_with_byte dot (map identifier_text (i ∷ is))) ≡ map identifier_text (i ∷ is)
parts-printed i [] read = parts-alone (identifier_text i) (identifier-printed i read.0).0.1
parts-printed i (j ∷ is) read = grind (arith, parts-printed j is, parts-before, identifier-printed)

identifiers-texts : (is : List IdentifierValue) → AllByRecursion IsReadIdentifier is
    → AllByRecursion IsIdentifierText (map identifier_text is)
identifiers-texts [] read = tt
identifiers-texts (i ∷ is) read = ((identifier-printed i read.0).0, identifiers-texts is read.1)

identifiers-values : (is : List IdentifierValue) → AllByRecursion IsReadIdentifier is
    → is ≡ map identifier_of (map identifier_text is)
identifiers-values [] read = refl
identifiers-values (i ∷ is) read = grind (arith, identifiers-values is, identifier-printed)

list-printed : (i : IdentifierValue) (is : List IdentifierValue) → AllByRecursion IsReadIdentifier (i ∷ is)
    → IsIdentifierList (join_with_byte dot (map identifier_text (i ∷ is))) (i ∷ is)
list-printed i is read =
    grind (arith, parts-printed i is read, identifiers-texts (i ∷ is) read, identifiers-values (i ∷ is) read)

-- ---- extras

prerelease-printed : (is : List IdentifierValue) → AllByRecursion IsReadIdentifier is
    → IsPrereleaseText (marked_text hyphen is) is
prerelease-printed [] read = refl
prerelease-printed (i ∷ is) read = grind (arith, list-printed i is read)

build-printed : (is : List IdentifierValue) → AllByRecursion IsReadIdentifier is → IsBuildText (marked_text plus is) is
build-printed [] read = refl
build-printed (i ∷ is) read = grind (arith, list-printed)

-- after the triple
abbrev pub extras_text : VersionValue → List ℕ
extras_text v = marked_text hyphen v.pre_release ++ marked_text plus v.build

pub extras_text-no_digit : (pre build : List IdentifierValue)
    → BeginsWithNo is_digit (marked_text hyphen pre ++ marked_text plus build)
extras_text-no_digit pre build = grind arith

-- ---- versions

-- a text can write the numbers and the identifiers of the version
pub record IsTextVersion (v : VersionValue) : Type 0 where
  pub numbers : HasTextNumbers v
  pub pre_release : AllByRecursion IsReadIdentifier v.pre_release
  pub build : AllByRecursion IsReadIdentifier v.build

pub print-whole : (v : VersionValue)
    → version_text v ≡ decimal v.major ++ (dot ∷ (decimal v.minor ++ (dot ∷ (decimal v.patch ++ extras_text v))))
print-whole v = grind (arith, append_assoc)

pub three-printed : (v : VersionValue) → IsTextVersion v → IsUnmarkedVersion v (version_text v)
three-printed v is =
    grind (arith, print-whole, prerelease-printed, build-printed, decimal-begins, decimal-digits, decimal-value)

-- the print begins with a digit
pub print-begins : (v : VersionValue) → IsTextVersion v → BeginsWith is_digit (version_text v)
print-begins v is = grind (arith, print-whole, begins-append, decimal-begins, decimal-digits, decimal-value)

-- so it has no mark
no-mark : (is_mark : ℕ → Bool) (text : List ℕ) → ((b : ℕ) → is_digit b ≡ true → is_mark b ≡ false)
    → BeginsWith is_digit text → mark_of is_mark text ≡ []
no-mark is_mark text none digit = grind arith

-- a text that begins with a digit has no mark and no blanks
pub unmarked : (is_mark : ℕ → Bool) (Is : List ℕ → Type 0) (text : List ℕ)
    → ((b : ℕ) → is_digit b ≡ true → is_mark b ≡ false) → BeginsWith is_digit text → Is text → IsMarked is_mark Is text
unmarked is_mark Is text none digit is =
    record { blanks = []; unmarked = text; whole = grind (arith, no-mark is_mark text); blank = refl; read = is }

pub version-printed : (v : VersionValue) → IsTextVersion v → VersionReadsBack v
version-printed v is short = grind (arith, unmarked, digit-no_version_mark, print-begins, three-printed)

-- a version that was read is one that a text can write
text-version : (text : List ℕ) (v : VersionValue) → IsVersionText text v → IsTextVersion v
text-version text v is = grind (arith, prerelease-read, build-read)

-- its print, where it is short enough, is read as that version
pub version-reads_back : (text : List ℕ) (v : VersionValue) → IsVersionText text v → VersionReadsBack v
version-reads_back text v is = version-printed v (text-version text v is)

-- so a text that is its print is that version
pub version-print_read : (text : List ℕ) (v : VersionValue) → HasText v → version_text v ≡ text
    → length text ≤ MAX_LENGTH → IsVersionText text v
version-print_read text v has print short = grind (arith, version-reads_back)
