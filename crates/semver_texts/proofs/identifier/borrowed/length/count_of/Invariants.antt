use Rattle.std.proofs.Common.{◌≡◌, ◌+◌, ◌≤◌, length}
use Rattle.semver_texts.specs.IdentifierText.{IsListed, identifiers_of}
use Rattle.semver_texts.proofs.identifier.borrowed.length.count_of.Given as goal

-- the identifiers so far and those of the rest are those of the text
abbrev pub invariant-identifiers : goal.invariant-identifiers
invariant-identifiers l = record {
  listed : IsListed l.rest;
  counted : l.count + length (identifiers_of l.rest) ≡ length (identifiers_of l.text);
  few : l.count + length l.rest ≤ length l.text;
}

abbrev pub decreases-identifiers : goal.decreases-identifiers
decreases-identifiers l = length l.rest
