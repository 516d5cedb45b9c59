-- A version text has one reading, which the reader returns.
use native.Mathlib.Omega.{arith}
use Rattle.std.proofs.Common.{◌≡◌, ◌≤◌, ℕ, List, [], length, Ok, sym, ap, ◌∙◌, append-nil}
use Rattle.semver_texts.specs.declared.TheConstants.{MAX_LENGTH}
use Rattle.semver_versions.specs.Private.VersionReading.{read_version}
use Rattle.semver_texts.specs.Version.{VersionValue}
use Rattle.semver_texts.specs.VersionText.{IsVersionText}
use Rattle.semver_texts.specs.Lemmas.Texts.NumberReading.{ok-value}
use Rattle.semver_versions.specs.Lemmas.Versions.VersionReading.{version-again, version-takes}

-- a version text is read, and nothing is left
pub version-read : (text : List ℕ) (v : VersionValue) → IsVersionText text v → read_version text ≡ Ok (v, [])
version-read text v h = grind (arith, append-nil text, version-again text [] v h.fields tt)

-- a text that is read with nothing left is a version text
pub read-version : (text : List ℕ) (v : VersionValue) → length text ≤ MAX_LENGTH → read_version text ≡ Ok (v, [])
    → IsVersionText text v
read-version text v short h = grind (arith, version-takes text v [] h, append-nil)

pub one_reading : (text : List ℕ) (v w : VersionValue) → IsVersionText text v → IsVersionText text w → v ≡ w
one_reading text v w h g =
    ap (λ (p : VersionValue × List ℕ). p.0)
    (ok-value (v, []) (w, []) (sym (version-read text v h) ∙ version-read text w g))
