use Rattle.std.proofs.Common.{◌≡◌, ◌<◌, ℕ, true, List, arith, get_or}
use Rattle.std.proofs.lemmas.List.{take_rest}
use Rattle.std.proofs.lemmas.Bool.{cases_Bool}
use Rattle.memchr.specs.Find.{Nowhere, Passes, is_byte2}
use Rattle.semver_sets.specs.Private.WordReading.{is_not_blank}
use Rattle.semver_texts.specs.Lemmas.Public.{rest_of-each, rest_of-first}
use Rattle.semver_sets.proofs.word.skip_to_blank.Goals as goal

-- there is no blank before place n
solid-before : (text : List ℕ) (n : ℕ) → Nowhere (Passes (is_byte2 32 9) text) 0 n
    → (k : ℕ) → k < n → is_not_blank (get_or text k 0) ≡ true
solid-before text n none k lt = grind (arith, cases_Bool)

pub returns-in-Some : goal.returns-in-Some
returns-in-Some c = grind (arith, take_rest, rest_of-first, solid-before)

pub returns-in-None : goal.returns-in-None
returns-in-None c = grind (arith, take_rest, rest_of-each, solid-before)
