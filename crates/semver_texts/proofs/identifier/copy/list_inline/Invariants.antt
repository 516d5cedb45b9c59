use Rattle.std.proofs.Common.{◌≡◌, ◌++◌, length}
use Rattle.semver_texts.specs.Identifier.{values_of}
use Rattle.semver_texts.specs.IdentifierText.{IsListed, identifiers_of}
use Rattle.semver_texts.proofs.identifier.copy.list_inline.Given as goal

-- the identifiers so far and those of the rest are those of the text
abbrev pub invariant-identifiers : goal.invariant-identifiers
invariant-identifiers l = record {
  listed : IsListed l.rest;
  read : values_of l.list.items ++ identifiers_of l.rest ≡ identifiers_of l.text;
}

abbrev pub decreases-identifiers : goal.decreases-identifiers
decreases-identifiers l = length l.rest
