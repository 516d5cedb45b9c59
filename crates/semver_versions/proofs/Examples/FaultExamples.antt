-- Worked examples: what the definitions of a version text and of a fault say of some texts.
use Rattle.std.proofs.Common.{◌≡◌, ℕ, ◌-◌, List, [], ◌∷◌, length, refl, ap, arith, codes, subst}
use Rattle.semver_texts.specs.IdentifierValue.{IdentifierValue, alphanumeric, numeric}
use Rattle.semver_texts.specs.Version.{VersionValue}
use Rattle.semver_texts.specs.VersionText.{IsVersionText}
use Rattle.semver_versions.specs.Error.{Kind, context, max_int, max_length, other, parse_int}
use Rattle.semver_versions.specs.Fault.{IsFault, too_long}
use Rattle.semver_versions.specs.Lemmas.Versions.Computing.{computed, is-computed, is-version_in, version_in}

-- a number or a dot is missing
abbrev missing : Kind
missing = context (codes "version")

missing-there : IsFault (codes "v") missing 1 × IsFault (codes "1.2") missing 3
    × IsFault (codes "900719925474100.a") missing 16
unfolding computed
missing-there = (is-computed _ _ _ refl, is-computed _ _ _ refl, is-computed _ _ _ refl)

-- a number is too large, whatever follows it
large-there : IsFault (codes "9007199254740992.a") (max_int 9007199254740992) 0
    × IsFault (codes "18446744073709551616.0.0") parse_int 0
unfolding computed
large-there = (is-computed _ _ _ refl, is-computed _ _ _ refl)

-- something is left after a version
left-there : IsFault (codes "1.2.3 ") other 5 × IsFault (codes "1.2.3-+a") other 5 × IsFault (codes "1.2.3-a.+b") other
    7
unfolding computed
left-there = (is-computed _ _ _ refl, is-computed _ _ _ refl, is-computed _ _ _ refl)

-- a text of 257 bytes, whatever it holds
long-there : (text : List ℕ) → length text ≡ 257 → IsFault text max_length 256
long-there text long =
    subst (λ (n : ℕ). IsFault text max_length n) (ap (λ (n : ℕ). n - 1) long) (too_long (omega arith))

-- a version of these fields
abbrev version : ℕ → ℕ → ℕ → List IdentifierValue → List IdentifierValue → VersionValue
version major minor patch pre_release build =
    record { major = major; minor = minor; patch = patch; pre_release = pre_release; build = build }

version-there : IsVersionText (codes "v 01.02.03") (version 1 2 3 [] [])
    × IsVersionText (codes "1.2.34-abc.123+007")
    (version 1 2 34 (alphanumeric (codes "abc") ∷ numeric 123 ∷ []) (numeric 7 ∷ []))
    × IsVersionText (codes "1.2.3beta") (version 1 2 3 (alphanumeric (codes "beta") ∷ []) [])
unfolding version_in
version-there = (
  is-version_in _ _ (omega arith) refl,
  is-version_in _ _ (omega arith) refl,
  is-version_in _ _ (omega arith) refl,
)
