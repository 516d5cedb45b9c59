use Rattle.std.proofs.Common.{string_bytes, subst, sym}
use Rattle.semver_texts.specs.IdentifierValue.{alphanumeric}
use Rattle.semver_keys.specs.Private.Reading.{IsIdentifierOf, IsOfNoIdentifier}
use Rattle.semver_keys.proofs.IdentifierReading.{none-identifier, number-identifier, text-identifier}
use Rattle.semver_keys.proofs.read.identifier.identifier_of.Goals as goal

pub returns-in-Number-clause-identifier : goal.returns-in-Number-clause-identifier
returns-in-Number-clause-identifier c = number-identifier c.args.part c.in-Number.n c.in-Number.is c.requires

pub returns-in-Some-clause-identifier : goal.returns-in-Some-clause-identifier
returns-in-Some-clause-identifier c = subst (λ part. IsIdentifierOf part (alphanumeric (string_bytes c.in-Some.text))) (sym c.in-Text.is)
    (text-identifier c.in-Text.bytes _ (rw c.in-Some.is at c.in_ok-text-in-Text.ensures.text))

pub returns-in-None-clause-none : goal.returns-in-None-clause-none
returns-in-None-clause-none c = subst IsOfNoIdentifier (sym c.in-Text.is)
    (none-identifier c.in-Text.bytes (rw c.in-None.is at c.in_ok-text-in-Text.ensures.none))
