use Rattle.std.proofs.Common.{◌≡◌, length}
use Rattle.std.specs.Cmp.Lexicographic.{slice_cmp}
use Rattle.semver_texts.specs.Comparison.{identifier_cmp}
use Rattle.semver_texts.specs.IdentifierText.{IsListed, identifiers_of}
use Rattle.semver_texts.proofs.identifier.borrowed.cmp_one_by_one.Given as goal

-- the identifiers that are left decide
abbrev pub invariant-identifiers : goal.invariant-identifiers
invariant-identifiers l = record {
  first : IsListed l.one;
  second : IsListed l.other;
  order : slice_cmp identifier_cmp (identifiers_of l.one) (identifiers_of l.other)
      ≡ slice_cmp identifier_cmp (identifiers_of l.a) (identifiers_of l.b);
}

abbrev pub decreases-identifiers : goal.decreases-identifiers
decreases-identifiers l = length l.one
