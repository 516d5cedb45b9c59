use Rattle.std.proofs.Common.{Bor, Option, Some, subst}
use Rattle.npm_semver.specs.Bump.{IsNextOf, identifier_seen}
use Rattle.semver_texts.specs.Identifier.{value_of, values_of}
use Rattle.semver_texts.specs.declared.identifier.Identifier.{Identifier}
use Rattle.npm_semver.proofs.Versions.Bumps.{next-of_some, other-reason, some-identifiers}
use Rattle.npm_semver.proofs.bump.identifiers.next_identifiers.Goals as goal

pub returns-in-Some-clause-refused : goal.returns-in-Some-clause-refused
returns-in-Some-clause-refused c =
    let some = some-identifiers c.args.identifiers.now _ c.is_empty.ensures c.if-is_empty.false in
    other-reason _ _ _ c.next_by_identifier.result
    (λ e none other next. none other (next-of_some (Some (value_of c.in-Some.identifier.now)) c.args.base _ other some
    (subst (λ (i : Option (Bor Identifier)). IsNextOf (identifier_seen i) c.args.base
    (values_of c.args.identifiers.now) other) c.in-Some.is next)))
    c.next_by_identifier.ensures.refused
