-- What is read is the longest: after it no more is left than after any prefix that is such a text.
use Rattle.std.proofs.Common.{◌≡◌, ◌≤◌, ℕ, Bool, List, [], ◌∷◌, ◌++◌, length, Ok, sym}
use Rattle.std.proofs.Common.{arith, append_assoc}
use Rattle.std.proofs.lemmas.Bool.{cases_Bool}
use Rattle.semver_texts.specs.Characters.{BeginsWith, BeginsWithNo, is_digit}
use Rattle.semver_texts.specs.Characters.{is_identifier_character, plus}
use Rattle.semver_texts.specs.IdentifierText.{IsBuildText, IsExtrasText, IsIdentifierList}
use Rattle.semver_texts.specs.IdentifierText.{IsPrereleaseText, parts_of}
use Rattle.semver_texts.specs.IdentifierValue.{IdentifierValue}
use Rattle.semver_texts.specs.Reading.{rest_of, skip_one, skip_plus, read_build, read_extras}
use Rattle.semver_texts.specs.Reading.{list_rest, read_number}
use Rattle.semver_texts.specs.Reading.{read_prerelease}
use Rattle.semver_texts.specs.Lemmas.Texts.Prefixes.{prefix_of-rest_of, rest-short, rest_of-again}
use Rattle.semver_texts.specs.Lemmas.Texts.ExtrasReading.{build-takes, read_build-other, read_build-plus}
use Rattle.semver_texts.specs.Lemmas.Texts.ExtrasReading.{read_list_or-none}
use Rattle.semver_texts.specs.Lemmas.Texts.ExtrasReading.{read_list_or-some, prerelease-again, prerelease-listed}
use Rattle.semver_texts.specs.Lemmas.Texts.ExtrasReading.{prerelease-takes}
use Rattle.semver_texts.specs.Lemmas.Texts.IdentifierReading.{GoOn, all-begins, go-on, goes_on-character}
use Rattle.semver_texts.specs.Lemmas.Texts.IdentifierReading.{list-through}
use Rattle.semver_texts.specs.Lemmas.Texts.ListedTexts.{list_rest-short}
use Rattle.semver_texts.specs.Lemmas.Texts.NumberReading.{number-takes}

pub rest_of-short : (test : ℕ → Bool) (text : List ℕ) → length (rest_of test text) ≤ length text
rest_of-short test text = rest-short text _ (rest_of test text) (sym (prefix_of-rest_of test text))

-- a list that goes on is read at least to its end
list-longest : (list more : List ℕ) → GoOn (parts_of list) → length (list_rest (list ++ more)) ≤ length more
list-longest list more g = rw (list-through list more g).1 (list_rest-short more)

-- a list of identifiers, with more after it
pub record ReadsOn (list more : List ℕ) : Type 0 where
  pub starts : BeginsWith is_identifier_character list
  pub longest : length (list_rest (list ++ more)) ≤ length more

listed-longest : (list more : List ℕ) (identifiers : List IdentifierValue) → IsIdentifierList list identifiers
    → ReadsOn list more
listed-longest list more identifiers h = grind (arith, all-begins, list-longest, go-on)

prerelease-short : (text : List ℕ) → length (read_prerelease text).1 ≤ length text
prerelease-short text = let t = prerelease-takes text in rest-short text t.taken (read_prerelease text).1 t.whole

build-short : (text : List ℕ) → length (read_build text).1 ≤ length text
build-short text = let t = build-takes text in rest-short text t.taken (read_build text).1 t.whole

pub prerelease-longest : (text more : List ℕ) (identifiers : List IdentifierValue) → IsPrereleaseText text identifiers
    → length (read_prerelease (text ++ more)).1 ≤ length more
prerelease-longest text more [] h = rw h (prerelease-short more)
prerelease-longest text more (i ∷ is) h =
    let r = listed-longest h.0 more (i ∷ is) h.2 in
    rw (prerelease-listed text h.0 more h.1 r.starts) r.longest

-- a build is read at least to its end
build-longest : (list more : List ℕ) (identifiers : List IdentifierValue) → IsIdentifierList list identifiers
    → length (read_build (plus ∷ (list ++ more))).1 ≤ length more
build-longest list more identifiers h =
    grind (arith, listed-longest list more identifiers h, read_build-plus plus (list ++ more))

-- so are a prerelease and a build after it
parts-longest : (before behind more : List ℕ) (prerelease build : List IdentifierValue)
    → IsPrereleaseText before prerelease → IsBuildText behind build
    → length (read_extras (before ++ (behind ++ more))).1 ≤ length more
unfolding read_extras
parts-longest before behind more prerelease build h g =
    grind (arith, prerelease-longest, build-short, prerelease-again, build-longest)

pub extras-longest : (text more : List ℕ) (prerelease build : List IdentifierValue)
    → IsExtrasText text prerelease build → length (read_extras (text ++ more)).1 ≤ length more
extras-longest text more prerelease build h = grind (arith, append_assoc, parts-longest)

pub extras-short : (text : List ℕ) → length (read_extras text).1 ≤ length text
unfolding read_extras
extras-short text = grind (arith, prerelease-short, build-short)

-- the rest after a number follows its digits
pub number-rest_of : (text : List ℕ) (read : ℕ × List ℕ) → read_number text ≡ Ok read → read.1 ≡ rest_of is_digit text
number-rest_of text read h = grind (arith, number-takes text read.0 read.1 h, rest_of-again)

-- extras after a number, with more after them
pub rest-longest : (extras more : List ℕ) (prerelease build : List IdentifierValue) → BeginsWithNo is_digit extras
    → IsExtrasText extras prerelease build
    → length (read_extras (rest_of is_digit (extras ++ more))).1 ≤ length more
unfolding rest_of
rest-longest [] more prerelease build none h = grind (arith, rest_of-short, extras-short)
rest-longest (b ∷ extras) more prerelease build none h = rw none (extras-longest (b ∷ extras) more prerelease build h)

-- so no digit follows the longest list
list-no_digit : (text : List ℕ) → BeginsWithNo is_digit (list_rest text)
unfolding list_rest
list-no_digit [] = tt
list-no_digit (b ∷ rest) = grind (arith, cases_Bool, goes_on-character, list-no_digit rest)

prerelease-no_digit : (text : List ℕ) → BeginsWithNo is_digit text → BeginsWithNo is_digit (read_prerelease text).1
unfolding read_prerelease skip_one
prerelease-no_digit text h = grind (arith, list-no_digit)

build-no_digit : (text : List ℕ) → BeginsWithNo is_digit text → BeginsWithNo is_digit (read_build text).1
unfolding read_build skip_plus
build-no_digit text h =
    grind (arith, cases_Bool, read_build-plus, read_build-other, read_list_or-some, list-no_digit, read_list_or-none)

pub extras-no_digit : (text : List ℕ) → BeginsWithNo is_digit text → BeginsWithNo is_digit (read_extras text).1
unfolding read_extras
extras-no_digit text h = build-no_digit (read_prerelease text).1 (prerelease-no_digit text h)
