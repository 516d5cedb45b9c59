-- The parts of a version's key, and the key of the cut before a version.
use Rattle.std.proofs.Common.{◌≡◌, ◌≢◌, ◌<◌, ◌++◌, ℕ, List, [], ◌∷◌, refl, sym, ap, ◌∙◌, arith}
use Rattle.std.proofs.lemmas.Grind.{common_steps}
use Rattle.semver_cuts.specs.declared.cut.Cut.TheVariants.{Before}
use Rattle.semver_texts.specs.IdentifierValue.{IdentifierValue}
use Rattle.semver_texts.specs.Triple.{triple_of}
use Rattle.semver_texts.specs.declared.triple.Triple.{Triple}
use Rattle.semver_texts.specs.Version.{IsPrerelease, VersionValue}
use Rattle.semver_keys.specs.CutKey.{cut_key}
use Rattle.semver_keys.specs.IdentifierKey.{prerelease_key}
use Rattle.semver_keys.specs.NumberKey.{number_key}
use Rattle.semver_keys.specs.VersionKey.{HasWords, version_key}
use Rattle.semver_keys.specs.Lemmas.NumberOrder.{short-key}
use Rattle.semver_keys.proofs.Growing.{grown_none, grown_taken}
use Rattle.semver_keys.proofs.IdentifierSteps.{prerelease-is, release-is}

-- a version that is no prerelease has no identifiers
pub none-if-release : (xs : List IdentifierValue) → ¬ (xs ≢ []) → xs ≡ []
none-if-release [] h = refl
none-if-release (x ∷ xs) h = absurd (h (λ e. cc e))

-- a release whose numbers are one byte each
pub record IsShort (v : VersionValue) (t : Triple) : Type 0 where
  pub triple : t ≡ triple_of v
  pub release : ¬ IsPrerelease v
  pub major : t.major < 240
  pub minor : t.minor < 240
  pub patch : t.patch < 240

-- its key
pub release-key : (v : VersionValue) (t : Triple) → IsShort v t
    → t.major ∷ t.minor ∷ t.patch ∷ 255 ∷ [] ≡ version_key v
unfolding version_key
release-key v t s = sym (λ i. short-key t.major s.major i ++ (short-key t.minor s.minor i ++ (short-key t.patch s.patch i
    ++ release-is v.pre_release (none-if-release v.pre_release s.release) i)))
    ∙ ap (λ (u : Triple). number_key u.major ++ (number_key u.minor ++ (number_key u.patch
    ++ prerelease_key v.pre_release))) s.triple

-- its numbers are of 64 bits
pub release-words : (v : VersionValue) (t : Triple) → IsShort v t → HasWords v
release-words v t s = record {
  major = grind (arith, s.triple, s.major);
  minor = grind (arith, s.triple, s.minor);
  patch = grind (arith, s.triple, s.patch);
  identifiers = rw (none-if-release v.pre_release s.release) tt;
}

-- the parts of a key, one after another
pub parts-added : (v : VersionValue) (t : Triple) (old one two three new : List ℕ) → t ≡ triple_of v
    → one ≡ old ++ number_key t.major → two ≡ one ++ number_key t.minor → three ≡ two ++ number_key t.patch
    → new ≡ three ++ prerelease_key v.pre_release → new ≡ old ++ version_key v
unfolding version_key
parts-added v t old one two three new e a b c d = let m = ap (λ (u : Triple). u.major) e in
    let n = ap (λ (u : Triple). u.minor) e in let p = ap (λ (u : Triple). u.patch) e in grind (arith, common_steps)

pub before-is : (v : VersionValue) → cut_key (Before v) ≡ version_key v
unfolding cut_key
before-is v = refl

pub ruleset version_rules = (common_steps, grown_none, grown_taken, prerelease-is, release-is)
