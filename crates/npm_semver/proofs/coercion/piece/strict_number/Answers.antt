use Rattle.std.proofs.Common.{rules, sym}
use Rattle.npm_semver.proofs.Versions.StrictNumbers.{strict_left, strict_refused}
use Rattle.npm_semver.proofs.coercion.piece.strict_number.Goals as goal

pub returns-in_default-clause-none : goal.returns-in_default-clause-none
returns-in_default-clause-none c = λ number h.
    strict_refused c.args.text.now number c.in_default.field-0 (sym c.in_default.ensures) h

pub returns-else-is_empty-clause-none : goal.returns-else-is_empty-clause-none
returns-else-is_empty-clause-none c = λ number h.
    strict_left c.args.text.now c.in-Ok.rest.now number c.in-Ok.number (sym c.in-Ok.ensures) (search rules) h
