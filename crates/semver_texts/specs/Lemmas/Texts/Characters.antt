-- Characters: those of a class one by one, which classes have none in common, and which are ASCII.
use Rattle.std.proofs.Common.{◌≡◌, ◌<◌, ℕ, Bool, true, false, List, [], ◌∷◌, zero, suc, arith, refl}
use Rattle.std.proofs.lemmas.Bool.{and_parts, eqb-true, or_cases}
use Rattle.std.proofs.lemmas.Bool.Decides.{nat_tests}
use Rattle.std.specs.Prelude.{◌==◌}
use Rattle.std.specs.List.{list_all}
use Rattle.std.specs.Str.{IsAscii}
use Rattle.semver_texts.specs.Characters.{AreAll, BeginsWith, BeginsWithNo, dot, is_blank, is_digit}
use Rattle.semver_texts.specs.Characters.{is_identifier_character, is_partial_mark, is_version_mark, is_x}

-- ---- the characters of a class

-- what holds of a space and of a tab holds of a blank
pub blank-cases : (P : ℕ → Type 0) (b : ℕ) → is_blank b ≡ true → P 32 → P 9 → P b
blank-cases P b h space tab = grind (arith, or_cases, eqb-true)

-- what holds of each x holds of any
pub x-cases : (P : ℕ → Type 0) (b : ℕ) → is_x b ≡ true → P 120 → P 88 → P 42 → P b
x-cases P b h small large star = grind (arith, or_cases, eqb-true)

-- ---- classes that have no character in common

-- no character of one class is of another, where none of the other is of the first
apart : (one other : ℕ → Bool) → ((b : ℕ) → other b ≡ true → one b ≡ false) → (b : ℕ) → one b ≡ true → other b ≡ false
apart one other none b h = grind arith

pub x-no_digit : (b : ℕ) → is_x b ≡ true → is_digit b ≡ false
x-no_digit b h = x-cases (λ (c : ℕ). is_digit c ≡ false) b h refl refl refl

pub digit-no_x : (b : ℕ) → is_digit b ≡ true → is_x b ≡ false
digit-no_x = apart is_digit is_x x-no_digit

pub digit-no_version_mark : (b : ℕ) → is_digit b ≡ true → is_version_mark b ≡ false
digit-no_version_mark = grind arith

pub digit-no_partial_mark : (b : ℕ) → is_digit b ≡ true → is_partial_mark b ≡ false
digit-no_partial_mark = grind arith

-- an identifier character is no dot
pub character-no_dot : (b : ℕ) → is_identifier_character b ≡ true → (b == dot) ≡ false
character-no_dot = grind arith

-- a text that begins with a digit begins with no blank, and with no x
pub digit-no_blank : (text : List ℕ) → BeginsWith is_digit text → BeginsWithNo is_blank text
digit-no_blank text h = grind arith

pub digit-begins_no_x : (text : List ℕ) → BeginsWith is_digit text → BeginsWithNo is_x text
digit-begins_no_x text h = grind arith

-- ---- ASCII

all-ascii : (test : ℕ → Bool) → ((b : ℕ) → test b ≡ true → b < 128) → (s : List ℕ) → AreAll test s → IsAscii s
all-ascii test small [] all i = omega arith
all-ascii test small (b ∷ s) all zero = small b (and_parts (test b) (list_all test s) all).0
all-ascii test small (b ∷ s) all (suc i) = all-ascii test small s (and_parts (test b) (list_all test s) all).1 i

ascii-character : (b : ℕ) → is_identifier_character b ≡ true → b < 128
ascii-character b h = grind (arith, nat_tests)

pub ascii-characters : (s : List ℕ) → AreAll is_identifier_character s → IsAscii s
ascii-characters = all-ascii is_identifier_character ascii-character

ascii-digit : (b : ℕ) → is_digit b ≡ true → b < 128
ascii-digit b h = grind (arith, nat_tests)

pub ascii-digits : (s : List ℕ) → AreAll is_digit s → IsAscii s
ascii-digits = all-ascii is_digit ascii-digit
