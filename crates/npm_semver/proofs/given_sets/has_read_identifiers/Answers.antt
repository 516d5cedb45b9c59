use native.Mathlib.Omega.{arith}
use Rattle.std.proofs.Common.{List, [], ◌∷◌}
use Rattle.std.specs.List.{AllByRecursion}
use Rattle.semver_texts.specs.Identifier.{value_of, values_of}
use Rattle.semver_texts.specs.IdentifierText.{IsReadIdentifier}
use Rattle.semver_texts.specs.declared.identifier.Identifier.{Identifier}
use Rattle.npm_semver.proofs.given_sets.has_read_identifiers.Goals as goal

all-values : (is : List Identifier) → AllByRecursion (λ i. IsReadIdentifier (value_of i)) is
    → AllByRecursion IsReadIdentifier (values_of is)
all-values [] all = tt
all-values (i ∷ is) all = (all.0, all-values is all.1)

all-identifiers : (is : List Identifier) → AllByRecursion IsReadIdentifier (values_of is)
    → AllByRecursion (λ i. IsReadIdentifier (value_of i)) is
all-identifiers [] all = tt
all-identifiers (i ∷ is) all = (all.0, all-identifiers is all.1)

pub returns-then-are_read : goal.returns-then-are_read
returns-then-are_read c = grind (arith, all-values, all-identifiers)

pub returns-else-are_read : goal.returns-else-are_read
returns-else-are_read c = grind (arith, all-identifiers)
