use Rattle.std.proofs.Common.{◌≡◌, ◌++◌, take}
use Rattle.semver_texts.specs.Identifier.{values_of}
use Rattle.npm_semver.proofs.bump.identifiers.push_copies.Given as goal

abbrev pub invariant-identifiers : goal.invariant-identifiers
invariant-identifiers l =
    values_of l.copies.items ≡ values_of l.fn.copies.items ++ values_of (take l.identifier-index l.identifiers)
