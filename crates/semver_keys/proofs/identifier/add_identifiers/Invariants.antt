use Rattle.std.proofs.Common.{◌≡◌, ◌++◌, length}
use Rattle.std.specs.List.{AllByRecursion}
use Rattle.semver_texts.specs.Identifier.{values_of}
use Rattle.semver_keys.specs.IdentifierKey as Keys
use Rattle.semver_keys.specs.Private.Grown.{IsGrown}
use Rattle.semver_keys.specs.VersionKey.{HasWord}
use Rattle.semver_keys.proofs.identifier.add_identifiers.Given as goal

abbrev pub invariant-identifiers : goal.invariant-identifiers
invariant-identifiers l = (l.key.items ++ Keys.identifiers_key (values_of l.rest)
    ≡ l.initial.key.items ++ Keys.identifiers_key (values_of l.initial.rest))
    × IsGrown l.initial.key.items l.key.items
    × (AllByRecursion HasWord (values_of l.rest) → AllByRecursion HasWord (values_of l.initial.rest))

abbrev pub decreases-identifiers : goal.decreases-identifiers
decreases-identifiers l = length l.rest
