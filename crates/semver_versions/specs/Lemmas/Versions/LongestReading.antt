-- What is read of a version is the longest: after it no more is left than after any prefix that is a version text.
use Rattle.std.proofs.Common.{◌≡◌, ◌≤◌, ℕ, List, ◌∷◌, ◌++◌, length, Ok, refl, sym, ap, ◌∙◌, arith}
use Rattle.semver_texts.specs.Characters.{AreAll, BeginsWithNo, dot, is_blank, is_digit, is_version_mark}
use Rattle.semver_texts.specs.NumberText.{IsNumberText}
use Rattle.semver_versions.specs.Private.VersionReading.{read_triple, read_unmarked, read_version}
use Rattle.semver_texts.specs.Reading.{read_number, rest_of, skip_one}
use Rattle.semver_texts.specs.Version.{VersionValue}
use Rattle.semver_texts.specs.VersionText.{IsMarked, IsUnmarkedVersion}
use Rattle.semver_texts.specs.Lemmas.Texts.LongestReading.{extras-no_digit, number-rest_of, rest-longest}
use Rattle.semver_texts.specs.Lemmas.Texts.NumberReading.{bind-ok, number-again, ok-value}
use Rattle.semver_versions.specs.Lemmas.Versions.DottedReading.{dot-again}
use Rattle.semver_texts.specs.Lemmas.Texts.Prefixes.{rest_of-all}
use Rattle.semver_versions.specs.Lemmas.Versions.VersionReading.{numbers-takes, version-follows}
use Rattle.semver_texts.specs.Lemmas.Texts.ExtrasReading.{regroup}

-- the rest after three numbers follows the digits of the third
numbers-rest_of : (major minor patch more : List ℕ) (a b : ℕ) (read : (ℕ × ℕ × ℕ) × List ℕ) → IsNumberText major a
    → IsNumberText minor b → AreAll is_digit patch
    → read_triple (major ++ (dot ∷ (minor ++ (dot ∷ (patch ++ more))))) ≡ Ok read → read.1 ≡ rest_of is_digit more
unfolding read_triple
numbers-rest_of major minor patch more a b read x y all h =
    let r1 = number-again major (dot ∷ (minor ++ (dot ∷ (patch ++ more)))) a x refl in
    let r2 = number-again minor (dot ∷ (patch ++ more)) b y refl in
    let m = bind-ok (read_number (patch ++ more)) (λ (third : ℕ × List ℕ). Ok ((a, b, third.0), third.1)) read
    (rw (r1, dot-again (minor ++ (dot ∷ (patch ++ more))), r2, dot-again (patch ++ more)) at h) in
    let e : ((a, b, m.0.0), m.0.1) ≡ read = ok-value _ _ m.2 in
    sym (ap (λ (r : (ℕ × ℕ × ℕ) × List ℕ). r.1) e) ∙ number-rest_of (patch ++ more) m.0 m.1
    ∙ rest_of-all is_digit patch more all

unmarked-longest : (text more rest : List ℕ) (v w : VersionValue) → IsUnmarkedVersion w text
    → read_unmarked (text ++ more) ≡ Ok (v, rest) → length rest ≤ length more
unfolding read_unmarked
unmarked-longest text more rest v w t h = grind (
  arith,
  regroup,
  numbers-rest_of,
  rest-longest t.extras more w.pre_release w.build (t.digits_end t.patch_text.some) t.extras_text,
)

-- a prefix that is a version text is no longer than the text that is read
pub version-longest : (text more rest : List ℕ) (v w : VersionValue)
    → IsMarked is_version_mark (IsUnmarkedVersion w) text → read_version (text ++ more) ≡ Ok (v, rest)
    → length rest ≤ length more
unfolding read_version
version-longest text more rest v w h read =
    unmarked-longest h.unmarked more rest v w h.read (rw (version-follows text more w h) at read)

-- the rest begins with no digit
pub version-no_digit : (text rest : List ℕ) (v : VersionValue) → read_version text ≡ Ok (v, rest)
    → BeginsWithNo is_digit rest
unfolding read_version read_unmarked
version-no_digit text rest v h =
    let n = bind-ok (read_triple (rest_of is_blank (skip_one is_version_mark text))) _ (v, rest) h in
    grind (arith, numbers-takes _ n.0.0 n.0.1 n.1, ok-value, extras-no_digit n.0.1)
