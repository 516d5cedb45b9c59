-- The parts of the sets, one after another.
use Rattle.std.proofs.Common.{◌≡◌, ◌≢◌, List, [], ◌∷◌, refl}
use Rattle.semver_cuts.specs.CommonSpans.{common_of}
use Rattle.semver_cuts.specs.Ends.{Ends, IsCutBelow}
use Rattle.semver_cuts.specs.Lemmas.TwoSpans.{common_of-rising}
use Rattle.semver_texts.specs.Comparison.{version_cmp}
use Rattle.semver_texts.specs.IdentifierValue.{IdentifierValue}
use Rattle.semver_texts.specs.Lemmas.Public.{version_total}
use Rattle.semver_texts.specs.Version.{VersionValue}
use Rattle.semver_keys.specs.Private.Opened.{parts_for, prereleases_of}

pub none-is : (set : Ends VersionValue) (v : VersionValue) (xs : List IdentifierValue) → ¬ (xs ≢ [])
    → parts_for set v xs ≡ []
unfolding parts_for
none-is set v [] h = refl
none-is set v (x ∷ xs) h = absurd (h (λ e. cc e))

pub some-is : (set : Ends VersionValue) (v : VersionValue) (xs : List IdentifierValue) → xs ≢ []
    → parts_for set v xs ≡ common_of version_cmp set (prereleases_of v)
unfolding parts_for
some-is set v [] h = absurd (h refl)
some-is set v (x ∷ xs) h = refl

pub rising : (one other span : Ends VersionValue) → span ∷ [] ≡ common_of version_cmp one other
    → IsCutBelow version_cmp span.lower span.upper
rising one other span e = common_of-rising version_total one other span e
