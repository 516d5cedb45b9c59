use Rattle.std.proofs.Common.{◌≡◌, length}
use Rattle.std.specs.Cmp.Lexicographic.{slice_cmp}
use Rattle.semver_texts.specs.Comparison.{identifier_cmp}
use Rattle.semver_texts.specs.Identifier.{values_of}
use Rattle.semver_texts.specs.IdentifierText.{IsListed, identifiers_of}
use Rattle.semver_texts.proofs.identifier.borrowed.cmp_list_with_text.Given as goal

-- the identifiers that are left decide
abbrev pub invariant-identifiers : goal.invariant-identifiers
invariant-identifiers l = record {
  second : IsListed l.other;
  order : slice_cmp identifier_cmp (values_of l.one) (identifiers_of l.other)
      ≡ slice_cmp identifier_cmp (values_of l.list) (identifiers_of l.text);
}

abbrev pub decreases-identifiers : goal.decreases-identifiers
decreases-identifiers l = length l.one
