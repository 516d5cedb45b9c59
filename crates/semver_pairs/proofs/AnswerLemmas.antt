-- Each list of pairs has an output, and only one.
use Rattle.std.proofs.Common.{◌≡◌, ◌⊎◌, ℕ, List, [], ◌∷◌, ◌++◌, true, IsUtf8, codes, inl, inr, refl, subst, sym, ◌∙◌}
use Rattle.std.specs.Str.{is_utf8}
use Rattle.std.proofs.lemmas.Bool.{cases_Bool}
use Rattle.std.proofs.lemmas.Str.{IsUtf8-from_is_utf8, is_utf8-from_IsUtf8}
use Rattle.semver_pairs.specs.Answer.{IsAnswer, IsBadRange, IsBadVersion, IsGoodRange, IsGoodVersion}
use Rattle.semver_pairs.specs.Answer.{admitted, bad_range, bad_version, turned_away}
use Rattle.semver_pairs.specs.Output.{HasAnswers, HasOneAnswer, IsPairAnswer}
use Rattle.semver_pairs.specs.Pairs.{Pair, both, lone}
use Rattle.semver_sets.specs.Meaning.{TextAdmits}
use Rattle.semver_texts.specs.Version.{VersionValue}
use Rattle.semver_texts.specs.VersionText.{IsVersionText}
use Rattle.semver_sets.proofs.Ranges.Decisions.{Decided, admits_or_not, refused_or_not}
use Rattle.semver_versions.specs.Lemmas.Public.{one_reading, read_or_faulty, version-no_fault}
use Rattle.semver_texts.specs.Characters.{newline}

-- ---- a line is bad or good, and not both

utf8_or_not : (line : List ℕ) → Decided (IsUtf8 line)
utf8_or_not line = elim (cases_Bool (is_utf8 line)) [
  | inl passes ↦ inl (IsUtf8-from_is_utf8 line passes)
  | inr fails ↦ inr (λ text. let passes : is_utf8 line ≡ true = is_utf8-from_IsUtf8 line text in cc (passes, fails))
]

version_or_not : (text : List ℕ) → ((v : VersionValue) × IsVersionText text v)
    ⊎ ((v : VersionValue) → ¬ IsVersionText text v)
version_or_not text = elim (read_or_faulty text) [
  | inl read ↦ inl read
  | inr faulty ↦ inr (λ v read. version-no_fault text v faulty.0 faulty.1 read faulty.2)
]

range_bad_or_good : (line : List ℕ) → IsBadRange line ⊎ IsGoodRange line
range_bad_or_good line = elim (utf8_or_not line) [
  | inl text ↦ elim (refused_or_not line) [ inl refused ↦ inl (inr refused) | inr accepted ↦ inr (text, accepted) ]
  | inr fails ↦ inl (inl fails)
]

version_bad_or_good : (line : List ℕ) → IsBadVersion line ⊎ ((v : VersionValue) × IsGoodVersion line v)
version_bad_or_good line = elim (utf8_or_not line) [
  | inl text ↦ elim (version_or_not line) [ inl read ↦ inr (read.0, (text, read.1)) | inr none ↦ inl (inr none) ]
  | inr fails ↦ inl (inl fails)
]

range_not_both : (line : List ℕ) → IsBadRange line → ¬ IsGoodRange line
range_not_both line bad good = elim bad [ inl fails ↦ fails good.0 | inr refused ↦ good.1 refused ]

version_not_both : (line : List ℕ) (v : VersionValue) → IsBadVersion line → ¬ IsGoodVersion line v
version_not_both line v bad good = elim bad [ inl fails ↦ fails good.0 | inr none ↦ none v good.1 ]

-- ---- of one pair

pub answer-exists : (range version : List ℕ) → (answer : List ℕ) × IsAnswer range version answer
answer-exists range version = elim (range_bad_or_good range) [
  | inl bad ↦ (codes "bad range", bad_range bad)
  | inr good ↦ elim (version_bad_or_good version) [
    | inl bad ↦ (codes "bad version", bad_version good bad)
    | inr read ↦ elim (admits_or_not range read.0) [
      | inl passes ↦ (codes "yes", admitted read.0 good read.1 passes)
      | inr fails ↦ (codes "no", turned_away read.0 good read.1 fails)
    ]
  ]
]

-- two readings of a version line are one
same_version : (line : List ℕ) (v w : VersionValue) → IsGoodVersion line v → IsGoodVersion line w → v ≡ w
same_version line v w one other = one_reading line v w one.1 other.1

answer-only : (range version one other : List ℕ) → IsAnswer range version one → IsAnswer range version other
    → one ≡ other
answer-only range version one other (bad_range b) (bad_range b') = refl
answer-only range version one other (bad_range b) (bad_version g b') = absurd (range_not_both range b g)
answer-only range version one other (bad_range b) (admitted v g r a) = absurd (range_not_both range b g)
answer-only range version one other (bad_range b) (turned_away v g r a) = absurd (range_not_both range b g)
answer-only range version one other (bad_version g b) (bad_range b') = absurd (range_not_both range b' g)
answer-only range version one other (bad_version g b) (bad_version g' b') = refl
answer-only range version one other (bad_version g b) (admitted v g' r a) = absurd (version_not_both version v b r)
answer-only range version one other (bad_version g b) (turned_away v g' r a) = absurd (version_not_both version v b r)
answer-only range version one other (admitted v g r a) (bad_range b') = absurd (range_not_both range b' g)
answer-only range version one other (admitted v g r a) (bad_version g' b') = absurd (version_not_both version v b' r)
answer-only range version one other (admitted v g r a) (admitted v' g' r' a') = refl
answer-only range version one other (admitted v g r a) (turned_away v' g' r' a') =
    absurd (a' (subst (TextAdmits range) (same_version version v v' r r') a))
answer-only range version one other (turned_away v g r a) (bad_range b') = absurd (range_not_both range b' g)
answer-only range version one other (turned_away v g r a) (bad_version g' b') = absurd (version_not_both version v b' r)
answer-only range version one other (turned_away v g r a) (admitted v' g' r' a') =
    absurd (a (subst (TextAdmits range) (same_version version v' v r' r) a'))
answer-only range version one other (turned_away v g r a) (turned_away v' g' r' a') = refl

-- ---- of all pairs

pair-exists : (pair : Pair) → (answer : List ℕ) × IsPairAnswer pair answer
pair-exists (both range version) = answer-exists range version
pair-exists (lone line) = (codes "missing version", refl)

pair-only : (pair : Pair) (one other : List ℕ) → IsPairAnswer pair one → IsPairAnswer pair other → one ≡ other
pair-only (both range version) one other is is' = answer-only range version one other is is'
pair-only (lone line) one other is is' = is ∙ sym is'

pub answers-exist : (pairs : List Pair) → HasAnswers pairs
answers-exist [] = ([], refl)
answers-exist (pair ∷ pairs) =
    let first = pair-exists pair in
    let others = answers-exist pairs in
    (first.0 ++ (newline ∷ others.0), (first.0, others.0, first.1, others.1, refl))

pub answers-only : (pairs : List Pair) → HasOneAnswer pairs
answers-only [] one other is is' = is ∙ sym is'
answers-only (pair ∷ pairs) one other (a, r, first, more, is) (a', r', first', more', is') =
    let same : a ≡ a' = pair-only pair a a' first first' in
    let rest : r ≡ r' = answers-only pairs r r' more more' in
    cc
