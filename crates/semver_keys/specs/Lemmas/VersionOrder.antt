-- Keys of versions have the order of the versions, whatever follows them.
use Rattle.std.proofs.Common.{◌≡◌, ◌++◌, ℕ, List, ap, ◌∙◌, append_assoc, arith}
use Rattle.std.specs.Ordering.{nat_cmp, ordering_then}
use Rattle.semver_texts.specs.Comparison.{version_cmp}
use Rattle.semver_texts.specs.Version.{VersionValue}
use Rattle.semver_keys.specs.KeyOrder.{key_cmp}
use Rattle.semver_keys.specs.IdentifierKey.{prerelease_key}
use Rattle.semver_keys.specs.NumberKey.{number_key}
use Rattle.semver_keys.specs.VersionKey.{HasWords, version_key}
use Rattle.semver_keys.specs.Lemmas.IdentifierOrder.{prerelease-order}
use Rattle.semver_keys.specs.Lemmas.NumberOrder.{BeginsKey, number-begins, number-order}

pub version-order : (v w : VersionValue) (r s : List ℕ) → HasWords v → HasWords w
    → key_cmp (version_key v ++ r) (version_key w ++ s) ≡ ordering_then (version_cmp v w) (key_cmp r s)
unfolding version_key
version-order v w r s h k = simp append_assoc
    (number-order v.major w.major _ _ h.major k.major
    ∙ ap (λ o. ordering_then (nat_cmp v.major w.major) o)
    (number-order v.minor w.minor _ _ h.minor k.minor
    ∙ ap (λ o. ordering_then (nat_cmp v.minor w.minor) o)
    (number-order v.patch w.patch _ _ h.patch k.patch
    ∙ ap (λ o. ordering_then (nat_cmp v.patch w.patch) o)
    (prerelease-order v.pre_release w.pre_release r s h.identifiers k.identifiers)))
    ∙ grind arith)

-- the first byte of a version's key is that of its major
pub version-begins : (v : VersionValue) (r : List ℕ) → BeginsKey (version_key v ++ r)
unfolding version_key
version-begins v r =
    let rest = number_key v.minor ++ (number_key v.patch ++ prerelease_key v.pre_release) in
    let it = number-begins v.major (rest ++ r) in
    record { first = it.first; rest = it.rest; whole = append_assoc (number_key v.major) rest r ∙ it.whole; low = it.low }
