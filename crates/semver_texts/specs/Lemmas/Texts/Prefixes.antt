-- The longest prefix of a text whose characters all pass, and the rest.
use Rattle.std.proofs.Common.{◌≡◌, ◌≤◌, ℕ, Bool, true, false, List, [], ◌∷◌, ◌++◌, length, refl, ap}
use Rattle.std.proofs.Common.{◌<◌, length-append, arith}
use Rattle.std.proofs.Math.Dec.{eqb-suc-zero}
use Rattle.std.proofs.lemmas.Bool.{and_from, and_parts}
use Rattle.std.specs.Prelude.{◌==◌}
use Rattle.std.specs.List.{list_all}
use Rattle.semver_texts.specs.Characters.{AreAll, BeginsWith, BeginsWithNo}
use Rattle.semver_texts.specs.Reading.{rest_of, begins, prefix_of}

-- the two together are the text
pub prefix_of-rest_of : (test : ℕ → Bool) (text : List ℕ) → prefix_of test text ++ rest_of test text ≡ text
unfolding prefix_of rest_of
prefix_of-rest_of test [] = refl
prefix_of-rest_of test (b ∷ rest) = grind (arith, prefix_of-rest_of test rest)

-- a rest is no longer than the whole
pub rest-short : (text taken rest : List ℕ) → text ≡ taken ++ rest → length rest ≤ length text
rest-short text taken rest e = omega (arith, ap length e, length-append taken rest)

pub prefix_of-all : (test : ℕ → Bool) (text : List ℕ) → AreAll test (prefix_of test text)
unfolding prefix_of
prefix_of-all test [] = refl
prefix_of-all test (b ∷ rest) = grind (arith, prefix_of-all test rest, and_from)

pub rest_of-no : (test : ℕ → Bool) (text : List ℕ) → BeginsWithNo test (rest_of test text)
unfolding rest_of
rest_of-no test [] = tt
rest_of-no test (b ∷ rest) = grind (arith, rest_of-no test rest)

-- what passes, before what does not, is that prefix
pub prefix_of-again : (test : ℕ → Bool) (text rest : List ℕ) → AreAll test text → BeginsWithNo test rest
    → prefix_of test (text ++ rest) ≡ text
unfolding prefix_of
prefix_of-again test [] [] all ends = refl
prefix_of-again test [] (c ∷ rest) all ends = rw ends refl
prefix_of-again test (b ∷ text) rest all ends = grind (arith, prefix_of-again test text rest, and_parts)

-- and the rest follows it
pub rest_of-again : (test : ℕ → Bool) (text rest : List ℕ) → AreAll test text → BeginsWithNo test rest
    → rest_of test (text ++ rest) ≡ rest
unfolding rest_of
rest_of-again test [] [] all ends = refl
rest_of-again test [] (c ∷ rest) all ends = rw ends refl
rest_of-again test (b ∷ text) rest all ends = grind (arith, rest_of-again test text rest, and_parts)

-- the characters that pass at the start are skipped, whatever follows them
pub rest_of-all : (test : ℕ → Bool) (text more : List ℕ) → AreAll test text
    → rest_of test (text ++ more) ≡ rest_of test more
unfolding rest_of
rest_of-all test [] more all = refl
rest_of-all test (b ∷ text) more all = grind (arith, rest_of-all test text more, and_parts)

-- nothing is skipped where nothing passes
pub rest_of-none : (test : ℕ → Bool) (text : List ℕ) → BeginsWithNo test text → rest_of test text ≡ text
unfolding rest_of
rest_of-none test text none = grind arith

-- the test of the first character, and the fact
pub begins-with : (test : ℕ → Bool) (text : List ℕ) → begins test text ≡ true → BeginsWith test text
begins-with test text h = grind arith

pub with-begins : (test : ℕ → Bool) (text : List ℕ) → BeginsWith test text → begins test text ≡ true
with-begins test text h = grind arith

pub begins-with_no : (test : ℕ → Bool) (text : List ℕ) → begins test text ≡ false → BeginsWithNo test text
begins-with_no test text h = grind arith

pub with_no-begins : (test : ℕ → Bool) (text : List ℕ) → BeginsWithNo test text → begins test text ≡ false
with_no-begins test text h = grind arith

-- a text with a first character that passes has one that passes at the start of its longest prefix
pub prefix_of-begins : (test : ℕ → Bool) (text : List ℕ) → BeginsWith test text → BeginsWith test (prefix_of test text)
unfolding prefix_of
prefix_of-begins test text h = grind arith

-- what begins a text begins it with more after it
pub begins-append : (test : ℕ → Bool) (text rest : List ℕ) → BeginsWith test text → BeginsWith test (text ++ rest)
begins-append test text rest h = grind arith

-- the empty text takes the first character of the rest
pub no-append : (test : ℕ → Bool) (text rest : List ℕ) → BeginsWithNo test text → BeginsWithNo test rest
    → BeginsWithNo test (text ++ rest)
no-append test text rest h g = grind arith

-- nothing is left exactly where all pass
pub rest_of-empty : (test : ℕ → Bool) (text : List ℕ) → (length (rest_of test text) == 0) ≡ list_all test text
unfolding rest_of
rest_of-empty test [] = refl
rest_of-empty test (b ∷ rest) = grind (arith, rest_of-empty test rest, eqb-suc-zero)

-- the prefix of what begins with no digit begins with none
pub prefix_of-no : (test : ℕ → Bool) (text rest : List ℕ) → BeginsWithNo test (text ++ rest) → BeginsWithNo test text
prefix_of-no test text rest h = grind arith

-- what begins with a digit is not empty
pub begins-some : (test : ℕ → Bool) (text : List ℕ) → BeginsWith test text → 0 < length text
begins-some test text h = grind arith
