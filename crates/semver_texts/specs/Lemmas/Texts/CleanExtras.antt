-- A text that begins with a blank, or is empty, has no extras.
use native.Mathlib.Omega.{arith}
use Rattle.std.proofs.Common.{◌≡◌, ℕ, true, List, [], refl}
use Rattle.semver_texts.specs.Characters.{BeginsWithNo, IsCleanEnd, is_digit}
use Rattle.semver_texts.specs.Reading.{is_clean_end, read_extras}
use Rattle.semver_texts.specs.Lemmas.Texts.ExtrasReading.{extras-again}
use Rattle.semver_texts.specs.Lemmas.Texts.IdentifierReading.{EndsExtras}

-- neither a digit nor anything of extras begins at a clean end
pub clean-no_digit : (rest : List ℕ) → IsCleanEnd rest → BeginsWithNo is_digit rest
clean-no_digit rest h = grind arith

pub clean-ends_extras : (rest : List ℕ) → IsCleanEnd rest → EndsExtras rest
clean-ends_extras rest h = grind arith

-- a clean end, as it is tested
pub clean-end : (text : List ℕ) → is_clean_end text ≡ true → IsCleanEnd text
clean-end text h = grind arith

-- a text at a clean end begins with no extras
pub clean_extras : (text : List ℕ) → is_clean_end text ≡ true → read_extras text ≡ (([], []), text)
clean_extras text h =
    extras-again [] text [] [] (record { prefix = []; rest = []; whole = refl; first = refl; second = refl })
    (clean-ends_extras text (clean-end text h))
