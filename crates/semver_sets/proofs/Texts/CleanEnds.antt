-- Clean ends: where a word may end.
use native.Mathlib.Omega.{arith}
use Rattle.std.proofs.Common.{◌≡◌, ℕ, true, List, ◌++◌, Some}
use Rattle.std.proofs.lemmas.Bool.{cases_Bool}
use Rattle.std.proofs.lemmas.Option.{same_Some}
use Rattle.semver_texts.specs.Characters.{BeginsWith, is_blank}
use Rattle.semver_texts.specs.Characters.{IsCleanEnd}
use Rattle.semver_sets.specs.PartialText.{Partial}
use Rattle.semver_sets.specs.Private.WordReading.{ReadPartial, up_to_clean}
use Rattle.semver_texts.specs.Reading.{is_clean_end}

-- the fact, and the test
pub true-clean : (rest : List ℕ) → IsCleanEnd rest → is_clean_end rest ≡ true
true-clean rest h1 = grind arith

-- blanks begin at a clean end
pub blanks-clean : (blanks rest : List ℕ) → BeginsWith is_blank blanks → IsCleanEnd (blanks ++ rest)
blanks-clean blanks rest h1 = grind arith

-- a reader up to a clean end leaves a rest with a clean end
pub up_to_clean-takes : (read : ReadPartial) (r : Partial × List ℕ) → up_to_clean read ≡ Some r
    → (read ≡ Some r) × IsCleanEnd r.1
up_to_clean-takes read r h1 = grind (arith, cases_Bool, same_Some)
