use Rattle.std.proofs.Common.{refl}
use Rattle.std.proofs.lemmas.Bool.{iff_false}
use Rattle.semver_keys.proofs.IdentifierReading.{all-listed, listed-more, none-listed, none-refused, none-stopped, shorter}
use Rattle.semver_keys.proofs.read.read_identifiers.Goals as goal

pub parts-init : goal.parts-init
parts-init c = none-listed _ _ c.in_ok-identifiers.ensures.items

pub parts-smaller : goal.parts-smaller
parts-smaller c = shorter _ _ _ c.in-Some.ensures.read

pub parts-preserved : goal.parts-preserved
parts-preserved c = listed-more _ _ c.in-Some-2.identifier c.in-Some.part _ _ _ c.parts.invariant
    c.in_ok-push-in-Some-2.ensures.items (rw c.in-Some-2.is at c.in_ok-identifier_of.ensures.identifier)
    c.in-Some.ensures.read

pub returns-in-None-clause-none : goal.returns-in-None-clause-none
returns-in-None-clause-none c = none-refused _ _ _ c.in-Some.part _ c.parts.invariant c.in-Some.ensures.read
    (rw c.in-None.is at c.in_ok-identifier_of.ensures.none)

pub returns-then-is_byte-clause-read : goal.returns-then-is_byte-clause-read
returns-then-is_byte-clause-read c = all-listed _ _ _ c.parts.invariant (c.if-is_byte.ensures.0 refl)

pub returns-else-is_byte-clause-none : goal.returns-else-is_byte-clause-none
returns-else-is_byte-clause-none c =
    none-stopped _ _ _ c.parts.invariant c.in_default.ensures.none
    (iff_false c.is_byte.ensures c.if-is_byte.false)
