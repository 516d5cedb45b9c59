-- Examples of the print, computed from its definition.
use Rattle.std.proofs.Common.{◌≡◌, [], ◌∷◌, codes, refl}
use Rattle.std.specs.Fmt.{digits}
use Rattle.semver_texts.specs.IdentifierValue.{numeric, alphanumeric}
use Rattle.semver_texts.specs.Version.{VersionValue, release}
use Rattle.semver_texts.specs.Print.{version_text}

abbrev full : VersionValue
full = record (release 1 2 34) { pre_release = alphanumeric (codes "abc") ∷ numeric 213 ∷ []; build = numeric 2 ∷ [] }

full-print : version_text full ≡ codes "1.2.34-abc.213+2"
unfolding digits
full-print = refl

release-text : version_text (release 0 0 18446744073709551615) ≡ codes "0.0.18446744073709551615"
unfolding digits
release-text = refl

-- identifiers that no text gives print as they are
odd-text : version_text (record (release 1 0 0) { pre_release = alphanumeric [] ∷ alphanumeric (codes "1") ∷ [] })
    ≡ codes "1.0.0-.1"
unfolding digits
odd-text = refl
