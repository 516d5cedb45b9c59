use Rattle.std.proofs.Common.{◌≡◌, ℕ, List, Some, arith, length}
use Rattle.std.proofs.lemmas.Bool.Decides.{nat_tests}
use Rattle.std.proofs.lemmas.List.{nil_from_length}
use Rattle.semver_texts.specs.IdentifierText.{IsIdentifierText, identifier_of}
use Rattle.semver_texts.specs.IdentifierValue.{IdentifierValue}
use Rattle.semver_command.specs.Increment.{IsIdentifierGiven, absent, empty, given}
use Rattle.semver_command.proofs.increment.given_identifier.Goals as goal

given_as : (text bytes : List ℕ) (i : IdentifierValue) → bytes ≡ text → IsIdentifierText bytes
    → i ≡ identifier_of bytes → IsIdentifierGiven (Some text) (Some i)
given_as text bytes i same is of = rw (of, same) (given text (rw same at is))

pub returns-in_default-clause-given : goal.returns-in_default-clause-given
returns-in_default-clause-given c = rw c.in_default.is absent

pub returns-then-is_empty-clause-given : goal.returns-then-is_empty-clause-given
returns-then-is_empty-clause-given c =
    let none : length c.in-Some.text.now ≡ 0 = grind (arith, nat_tests, c.if-is_empty.ensures) in
    rw (c.in-Some.is, nil_from_length c.in-Some.text.now none) empty

pub returns-in-Ok-Some-clause-given : goal.returns-in-Ok-Some-clause-given
returns-in-Ok-Some-clause-given c =
    let read = rw c.in-Ok-Some.field-0-is at c.in-Ok-Some.ensures in
    rw c.in-Some.is (given_as c.in-Some.text.now c.as_bytes.result.now _ c.as_bytes.ensures.value read.0 read.1)
