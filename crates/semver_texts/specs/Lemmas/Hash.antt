-- Equal identifiers and equal versions feed a hasher the same.
use Rattle.std.proofs.Common.{arith}
use Rattle.std.proofs.Common.{◌≡◌, ◌++◌, ℕ, true, List, ap}
use Rattle.std.specs.Hash as fed
use Rattle.std.specs.Ordering.{eq_by_cmp}
use Rattle.std.specs.Cmp.{Equal-is}
use Rattle.std.specs.Cmp.Derive.Mapped.{items_map}
use Rattle.semver_texts.specs.IdentifierValue.{IdentifierValue}
use Rattle.semver_texts.specs.Version.{VersionValue}
use Rattle.semver_texts.specs.Comparison.{identifier_cmp, version_cmp}
use Rattle.semver_texts.specs.Lemmas.Order.{identifier-IsAntisymmetric, Equal-version}
use Rattle.semver_texts.specs.Hash.{identifier_writes, version_writes}
use Rattle.semver_texts.specs.Identifier.{value_of, values_of}
use Rattle.semver_texts.specs.declared.identifier.Identifier.{Identifier}

pub identifier_alike : (a b : IdentifierValue) → eq_by_cmp identifier_cmp a b ≡ true
    → identifier_writes a ≡ identifier_writes b
identifier_alike a b e = ap identifier_writes (identifier-IsAntisymmetric a b ((Equal-is (identifier_cmp a b)).0 e))

pub version_alike : (v w : VersionValue) → eq_by_cmp version_cmp v w ≡ true → version_writes v ≡ version_writes w
version_alike v w e = grind (arith, Equal-version, Equal-is)

-- the identifiers of a version, one by one
pub version_writes-fields : (major minor patch : ℕ) (identifiers : List Identifier) (build : List IdentifierValue)
    → fed.u64 major ++ fed.u64 minor ++ fed.u64 patch
    ++ fed.slice (λ (x : Identifier). identifier_writes (value_of x)) identifiers
    ≡ version_writes (record {
      major = major;
      minor = minor;
      patch = patch;
      pre_release =
          values_of identifiers;
      build = build;
    })
version_writes-fields major minor patch identifiers build = grind (arith, items_map)
