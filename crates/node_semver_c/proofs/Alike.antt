-- What is the same has one hash.
use Rattle.std.proofs.Common.{◌≡◌, true, ℕ, List, ap}
use Rattle.std.specs.Prelude.{fold}
use Rattle.std.specs.Hash.{HashWrites}
use Rattle.std.specs.Hash.FoldHasher as folding
use Rattle.std.specs.Ordering.{eq_by_cmp}
use Rattle.node_semver_c.specs.Compared.{range_hash, version_hash}
use Rattle.semver_cuts.specs.Ends.{Ends}
use Rattle.semver_texts.specs.Comparison.{version_cmp}
use Rattle.semver_sets.specs.Lemmas.RangeHash.{range_alike}
use Rattle.semver_texts.specs.Lemmas.Public.{version_alike}
use Rattle.semver_sets.specs.RangeEquality.{are_same_cuts}
use Rattle.semver_texts.specs.Version.{VersionValue}

abbrev hash_of : HashWrites → ℕ
hash_of writes = folding.finish (fold folding.write folding.initial writes)

pub version_hash-alike : (v w : VersionValue) → eq_by_cmp version_cmp v w ≡ true → version_hash v ≡ version_hash w
version_hash-alike v w same = ap hash_of (version_alike v w same)

pub range_hash-alike : (one other : List (Ends VersionValue)) → are_same_cuts one other ≡ true
    → range_hash one ≡ range_hash other
range_hash-alike one other same = ap hash_of (range_alike one other same)
