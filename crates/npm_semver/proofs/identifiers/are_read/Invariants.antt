use Rattle.std.proofs.Common.{take}
use Rattle.std.specs.List.{AllByRecursion}
use Rattle.semver_texts.specs.Identifier.{value_of}
use Rattle.semver_texts.specs.IdentifierText.{IsReadIdentifier}
use Rattle.npm_semver.proofs.identifiers.are_read.Given as goal

abbrev pub invariant-identifiers : goal.invariant-identifiers
invariant-identifiers l =
    AllByRecursion (λ i. IsReadIdentifier (value_of i)) (take l.identifier-index l.identifiers)
