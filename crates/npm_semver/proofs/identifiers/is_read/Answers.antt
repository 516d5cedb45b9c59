use Rattle.std.proofs.Common.{rules, ◌<◌, ◌^◌, refl, subst, sym}
use Rattle.std.specs.Fmt.{decimal}
use Rattle.semver_texts.specs.Identifier.{value_of}
use Rattle.semver_texts.specs.IdentifierText.{IsReadIdentifier}
use Rattle.semver_texts.specs.declared.identifier.Identifier.{Identifier}
use Rattle.semver_texts.specs.Lemmas.Public.{decimal-identifier}
use Rattle.npm_semver.proofs.identifiers.is_read.Goals as goal

pub returns-in-Numeric : goal.returns-in-Numeric
returns-in-Numeric c =
    let n = c.in-Numeric.number in
    let small : n < 2 ^ 64 = search rules in
    let read = decimal-identifier n small in (
      λ _. subst (λ (i : Identifier). IsReadIdentifier (value_of i)) (sym c.in-Numeric.is) (decimal n, read.0, read.1),
      λ _. refl,
    )
