-- Equal ranges feed a hasher the same.
use Rattle.std.proofs.Common.{◌≡◌, true, List}
use Rattle.std.specs.Hash.{items_Alike}
use Rattle.semver_cuts.specs.Ends.{Ends}
use Rattle.semver_cuts.specs.Lemmas.Hash.{span_alike}
use Rattle.semver_texts.specs.Comparison.{version_cmp}
use Rattle.semver_texts.specs.Lemmas.Public.{version_alike}
use Rattle.semver_texts.specs.Version.{VersionValue}
use Rattle.semver_sets.specs.RangeEquality.{are_same_cuts}
use Rattle.semver_sets.specs.RangeHash.{range_writes}

pub range_alike : (one other : List (Ends VersionValue)) → are_same_cuts one other ≡ true
    → range_writes one ≡ range_writes other
range_alike = (items_Alike (record { fed = span_alike version_cmp version_alike })).fed
