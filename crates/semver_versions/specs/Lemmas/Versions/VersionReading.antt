-- Triples and versions: the readers read exactly these texts.
use Rattle.std.proofs.Common.{◌≡◌, ◌<◌, ℕ, true, List, ◌∷◌, ◌++◌, arith, get_or, length, Ok, refl}
use Rattle.std.proofs.Common.{ap, ◌∙◌}
use Rattle.semver_texts.specs.Characters.{BeginsWith, BeginsWithNo, dot, is_blank, is_digit}
use Rattle.semver_texts.specs.Characters.{is_version_mark}
use Rattle.semver_texts.specs.Characters.{IsCleanEnd}
use Rattle.semver_texts.specs.NumberText.{IsNumberText}
use Rattle.semver_texts.specs.Version.{VersionValue}
use Rattle.semver_texts.specs.VersionText.{IsMarked, IsUnmarkedVersion}
use Rattle.semver_texts.specs.Reading.{read_number}
use Rattle.semver_versions.specs.Private.VersionReading.{read_dot, read_triple, read_unmarked}
use Rattle.semver_texts.specs.Reading.{rest_of, skip_one}
use Rattle.semver_versions.specs.Private.VersionReading.{read_version}
use Rattle.semver_texts.specs.Lemmas.Texts.Marks.{TakesMarked, marked-follows, marked-taken}
use Rattle.semver_texts.specs.Lemmas.Texts.CleanExtras.{clean-ends_extras}
use Rattle.semver_texts.specs.Lemmas.Texts.Prefixes.{begins-append, begins-some}
use Rattle.semver_texts.specs.Lemmas.Texts.ExtrasReading.{extras-again, extras-takes, regroup}
use Rattle.semver_texts.specs.Lemmas.Texts.NumberReading.{bind-ok, number-again, number-takes}
use Rattle.semver_versions.specs.Lemmas.Versions.DottedReading.{dot-again}
use Rattle.semver_versions.specs.Lemmas.Versions.DottedReading.{dot-takes}
use Rattle.semver_texts.specs.Lemmas.Texts.Characters.{digit-no_blank}

-- three numbers with dots between them, at the start of a text
pub record TakesNumbers (text : List ℕ) (numbers : ℕ × ℕ × ℕ) (rest : List ℕ) : Type 0 where
  pub major : List ℕ
  pub minor : List ℕ
  pub patch : List ℕ
  pub whole : text ≡ major ++ (dot ∷ (minor ++ (dot ∷ (patch ++ rest))))
  pub first : IsNumberText major numbers.0
  pub second : IsNumberText minor numbers.1
  pub third : IsNumberText patch numbers.2
  pub ends : BeginsWithNo is_digit rest

pub numbers-takes : (text : List ℕ) (numbers : ℕ × ℕ × ℕ) (rest : List ℕ) → read_triple text ≡ Ok (numbers, rest)
    → TakesNumbers text numbers rest
unfolding read_triple
numbers-takes text numbers rest h =
    let m1 = bind-ok (read_number text) _ (numbers, rest) h in
    let p1 = bind-ok (read_dot m1.0.1) _ (numbers, rest) m1.2 in
    let m2 = bind-ok (read_number p1.0) _ (numbers, rest) p1.2 in
    let p2 = bind-ok (read_dot m2.0.1) _ (numbers, rest) m2.2 in
    let m3 = bind-ok (read_number p2.0) _ (numbers, rest) p2.2 in
    grind (
      arith,
      number-takes text m1.0.0 m1.0.1 m1.1,
      number-takes p1.0 m2.0.0 m2.0.1 m2.1,
      number-takes p2.0 m3.0.0 m3.0.1 m3.1,
      dot-takes m1.0.1 p1.0 p1.1,
      dot-takes m2.0.1 p2.0 p2.1,
    )

pub numbers-again : (major minor patch rest : List ℕ) (a b c : ℕ) → IsNumberText major a → IsNumberText minor b
    → IsNumberText patch c → BeginsWithNo is_digit rest
    → read_triple (major ++ (dot ∷ (minor ++ (dot ∷ (patch ++ rest))))) ≡ Ok ((a, b, c), rest)
unfolding read_triple
numbers-again major minor patch rest a b c x y z ends =
    let r1 = number-again major (dot ∷ (minor ++ (dot ∷ (patch ++ rest)))) a x refl in
    let r2 = number-again minor (dot ∷ (patch ++ rest)) b y refl in
    let r3 = number-again patch rest c z ends in
    rw (r1, dot-again (minor ++ (dot ∷ (patch ++ rest))), r2, dot-again (patch ++ rest), r3) refl

-- an unmarked version, at the start of a text
pub record TakesUnmarked (text : List ℕ) (v : VersionValue) (rest : List ℕ) : Type 0 where
  pub taken : List ℕ
  pub whole : text ≡ taken ++ rest
  pub read : IsUnmarkedVersion v taken

unmarked-takes : (text : List ℕ) (v : VersionValue) (rest : List ℕ) → read_unmarked text ≡ Ok (v, rest)
    → TakesUnmarked text v rest
unfolding read_unmarked
unmarked-takes text v rest h =
    let n = bind-ok (read_triple text) _ (v, rest) h in
    grind (arith, numbers-takes text n.0.0 n.0.1 n.1, extras-takes n.0.1, regroup)

unmarked-again : (text rest : List ℕ) (v : VersionValue) → IsUnmarkedVersion v text → IsCleanEnd rest
    → read_unmarked (text ++ rest) ≡ Ok (v, rest)
unfolding read_unmarked
unmarked-again text rest v h clean = grind (
  arith,
  regroup,
  numbers-again h.first h.second h.third (h.extras ++ rest) v.major v.minor v.patch,
  extras-again h.extras rest v.pre_release v.build h.extras_text (clean-ends_extras rest clean),
)

-- an unmarked version begins with a digit
pub unmarked-begins : (text : List ℕ) (v : VersionValue) → IsUnmarkedVersion v text → BeginsWith is_digit text
unmarked-begins text v h = rw h.whole (begins-append is_digit h.first _ h.major_text.some)

pub version-takes : (text : List ℕ) (v : VersionValue) (rest : List ℕ) → read_version text ≡ Ok (v, rest)
    → TakesMarked is_version_mark (IsUnmarkedVersion v) text rest
unfolding read_version
version-takes text v rest h =
    let t = unmarked-takes (rest_of is_blank (skip_one is_version_mark text)) v rest h in
    marked-taken is_version_mark (IsUnmarkedVersion v) text t.taken rest t.whole
    (begins-some is_digit t.taken (unmarked-begins t.taken v t.read)) t.read

-- a text that begins with a digit begins with no mark and no blank
pub digit-first : (text : List ℕ) → 0 < length text → is_digit (get_or text 0 0) ≡ true
    → text ≡ rest_of is_blank (skip_one is_version_mark text)
unfolding rest_of skip_one
digit-first text some digit = grind arith

-- what follows the mark and the blanks of a marked version, with more after it
pub version-follows : (text more : List ℕ) (v : VersionValue) (h : IsMarked is_version_mark (IsUnmarkedVersion v) text)
    → rest_of is_blank (skip_one is_version_mark (text ++ more)) ≡ h.unmarked ++ more
version-follows text more v h =
    let starts = unmarked-begins h.unmarked v h.read in
    marked-follows is_version_mark (IsUnmarkedVersion v) text more h (begins-some is_digit h.unmarked starts)
    (digit-no_blank (h.unmarked ++ more) (begins-append is_digit h.unmarked more starts))

pub version-again : (text rest : List ℕ) (v : VersionValue) → IsMarked is_version_mark (IsUnmarkedVersion v) text
    → IsCleanEnd rest → read_version (text ++ rest) ≡ Ok (v, rest)
unfolding read_version
version-again text rest v h clean =
    ap read_unmarked (version-follows text rest v h) ∙ unmarked-again h.unmarked rest v h.read clean
