use Rattle.std.proofs.Common.{◌≡◌, ◌++◌, List, length}
use Rattle.std.specs.List.{AllByRecursion}
use Rattle.npm_semver.specs.Bump.{IsText}
use Rattle.semver_texts.specs.Identifier.{values_of}
use Rattle.semver_texts.specs.declared.identifier.Identifier.{Identifier}
use Rattle.npm_semver.proofs.bump.identifiers.split_last_number.Given as goal

-- what follows has no number
abbrev pub invariant-identifiers : goal.invariant-identifiers
invariant-identifiers l = record {
  after : List Identifier;
  whole : l.identifiers ≡ l.rest ++ after;
  texts : AllByRecursion IsText (values_of after);
}

abbrev pub decreases-identifiers : goal.decreases-identifiers
decreases-identifiers l = length l.rest
