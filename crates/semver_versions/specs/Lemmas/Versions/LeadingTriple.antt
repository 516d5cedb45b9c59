-- A triple that is read once, at the very start of a version text.
use native.Mathlib.Omega.{arith}
use Rattle.std.proofs.Common.{◌≡◌, ℕ, List, Ok, Option}
use Rattle.std.specs.Borrow.{Bor}
use Rattle.std.specs.Prelude.{IfSome, Result}
use Rattle.std.specs.Result.{result_ok}
use Rattle.semver_texts.specs.Characters.{BeginsWith, is_blank, is_digit, is_version_mark}
use Rattle.semver_texts.specs.Reading.{read_number}
use Rattle.semver_versions.specs.Private.VersionReading.{read_marked_triple, read_minor_and_patch}
use Rattle.semver_texts.specs.Reading.{rest_of, skip_one}
use Rattle.semver_versions.specs.Private.VersionReading.{read_triple}
use Rattle.semver_texts.specs.Reading.{seen}
use Rattle.semver_texts.specs.declared.parse.fault.Fault.{Fault}
use Rattle.semver_texts.specs.Lemmas.Texts.NumberReading.{number-digit}

-- a text that begins with a digit begins with no mark and no blank
pub version-begins : (text : List ℕ) → BeginsWith is_digit text
    → rest_of is_blank (skip_one is_version_mark text) ≡ text
unfolding rest_of skip_one
version-begins text digit = grind arith

-- three numbers that are read from the start
pub leading-read : (text first : List ℕ) (major : ℕ) (r : Result ((ℕ × ℕ × ℕ) × Bor (List ℕ)) Fault)
    (found : Option ((ℕ × ℕ × ℕ) × Bor (List ℕ))) → Ok (major, first) ≡ read_number text
    → seen r ≡ read_minor_and_patch (major, first) → found ≡ result_ok r
    → IfSome found (λ t. read_marked_triple text ≡ Ok (t.0, t.1.now))
unfolding read_triple
leading-read text first major r found one two is = grind (arith, version-begins, number-digit)
