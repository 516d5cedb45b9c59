use Rattle.std.proofs.Common.{take}
use Rattle.std.specs.List.{AllByRecursion}
use Rattle.semver_texts.specs.Identifier.{values_of}
use Rattle.semver_versions.specs.VersionSteps.{IsIdentifier}
use Rattle.semver_versions.proofs.version.stepped.prove_identifiers.Given as goal

abbrev pub invariant-identifiers : goal.invariant-identifiers
invariant-identifiers l = AllByRecursion IsIdentifier (values_of (take l.identifier-index l.identifiers))
