use Rattle.std.proofs.Common.{◌≡◌, ◌++◌, length}
use Rattle.std.specs.List.{AllByRecursion}
use Rattle.semver_keys.specs.IdentifierKey as Keys
use Rattle.semver_keys.specs.Private.Grown.{IsGrown}
use Rattle.semver_keys.specs.VersionKey.{HasWord}
use Rattle.semver_keys.proofs.identifier.add_borrowed.Given as goal

abbrev pub invariant-identifiers : goal.invariant-identifiers
invariant-identifiers l = (l.key.items ++ Keys.identifiers_key l.rest
    ≡ l.initial.key.items ++ Keys.identifiers_key l.initial.rest)
    × IsGrown l.initial.key.items l.key.items
    × (AllByRecursion HasWord l.rest → AllByRecursion HasWord l.initial.rest)

abbrev pub decreases-identifiers : goal.decreases-identifiers
decreases-identifiers l = length l.rest
