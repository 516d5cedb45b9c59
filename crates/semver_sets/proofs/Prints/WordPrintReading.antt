-- The print of a version, alone or after an operator, is a word with that comparator.
use native.Mathlib.Omega.{arith}
use Rattle.std.proofs.Common.{◌≡◌, ◌∙◌, ℕ, List, [], ◌++◌, Some, None, append_assoc, refl, sym, ap}
use Rattle.std.proofs.Common.{subst}
use Rattle.std.proofs.lemmas.Bool.{cases_Bool, eqb-true}
use Rattle.std.specs.Prelude.{◌==◌}
use Rattle.semver_texts.specs.Characters.{BeginsWith, BeginsWithNo, is_blank, is_digit}
use Rattle.semver_sets.specs.Comparator.{Comparator, exactly}
use Rattle.semver_sets.specs.Division.{IsSimpleText, IsWord, NoneAt, by_operator, plain, simple}
use Rattle.semver_texts.specs.Characters.{IsCleanEnd}
use Rattle.semver_sets.specs.HyphenRanges.{IsHyphenText}
use Rattle.semver_sets.specs.Operators.{Operator}
use Rattle.semver_sets.specs.Operators.{operator_row, operator_text}
use Rattle.semver_sets.specs.PartialText.{IsPartialText, IsUnmarkedPartial, Partial, by_row}
use Rattle.semver_texts.specs.Print.{version_text}
use Rattle.semver_texts.specs.Version.{VersionValue}
use Rattle.semver_sets.specs.Private.WordReading.{Lead, is_not_blank, operator, read_hyphen, read_lead, read_partial}
use Rattle.semver_sets.specs.Private.WordReading.{with_left}
use Rattle.semver_sets.proofs.Words.HyphenReading.{left-ends, right-none}
use Rattle.semver_sets.proofs.Words.LeadReading.{lead-not_partial, lead-operator}
use Rattle.semver_sets.proofs.Words.NoBars.{HasNoBar, simple-none}
use Rattle.semver_sets.proofs.Words.PartialReading.{partial-again}
use Rattle.semver_texts.specs.Lemmas.Public.{IsTextVersion, begins-append, digit-no_blank, print-begins}
use Rattle.semver_texts.specs.Lemmas.Public.{three-printed, unmarked}
use Rattle.semver_sets.proofs.Words.WordLemmas.{hyphen-with_left, no-hyphen, right-no_blank}

-- ---- the print of a version as a partial

-- a version as a full partial
abbrev partial_of : VersionValue → Partial
partial_of v = record {
  major = Some v.major;
  minor = Some v.minor;
  patch = Some v.patch;
  pre_release = v.pre_release;
  build = v.build;
}

unmarked-printed : (v : VersionValue) → IsTextVersion v → IsUnmarkedPartial (partial_of v) (version_text v)
unmarked-printed v is = grind (arith, three-printed v is)

partial-printed : (v : VersionValue) → IsTextVersion v → IsPartialText (version_text v) (partial_of v)
partial-printed v is = grind (arith, unmarked, print-begins, unmarked-printed)

-- ---- words

-- A word with this comparator, and this rest after it.
pub record IsPrintedWord (text rest : List ℕ) (c : Comparator) : Type 0 where
  pub word : IsWord text rest (Some c)
  pub no_bar : HasNoBar text
  pub begins : BeginsWith is_not_blank text

-- what begins with a digit begins with no `=`
digit-no_equals : (text : List ℕ) → BeginsWith is_digit text → BeginsWithNo (λ b. b == 61) text
digit-no_equals text h1 = grind (arith, cases_Bool, eqb-true)

-- a character that is no blank, and the fact
pub solid-begins : (text : List ℕ) → BeginsWith is_not_blank text → BeginsWithNo is_blank text
solid-begins text h1 = grind (arith, cases_Bool)

digit-solid : (text : List ℕ) → BeginsWith is_digit text → BeginsWith is_not_blank text
digit-solid text h1 = grind (arith, digit-no_blank)

-- an operator begins with no blank
operator-begins : (o : Operator) (behind : List ℕ) → BeginsWith is_not_blank (operator_text o ++ behind)
operator-begins o behind = grind arith

-- no hyphen range begins with one
operator-no_hyphen : (o : Operator) (behind : List ℕ) → BeginsWithNo (λ b. b == 61) behind
    → NoneAt IsHyphenText (operator_text o ++ behind)
operator-no_hyphen o behind ends =
    let text = operator_text o ++ behind in
    let led : (read_lead text).0 ≡ operator o = ap (λ (l : Lead × List ℕ). l.0) (lead-operator o behind ends) in
    let none : read_partial text ≡ None = lead-not_partial text (λ e. cc (sym led ∙ e)) in
    no-hyphen text (hyphen-with_left text (right-no_blank text (solid-begins text (operator-begins o behind)))
    ∙ ap with_left none)

-- an operator and the print of a version: `>=1.2.3`
pub operator-word : (o : Operator) (v : VersionValue) (rest : List ℕ) (c : Comparator) → IsTextVersion v
    → IsCleanEnd rest
    → Some c ≡ by_row (operator_row o) (partial_of v) → IsPrintedWord (operator_text o ++ version_text v) rest c
operator-word o v rest c is clean says =
    let text = operator_text o ++ version_text v in
    let written : IsSimpleText text (Some c) =
    by_operator (record {
      operator = o;
      partial = partial_of v;
      written = record {
        blanks = [];
        operand = version_text v;
        whole = refl;
        blank = refl;
        read = partial-printed v is;
      };
      says = says;
    }) in
    let ends = digit-no_equals (version_text v ++ rest)
    (begins-append is_digit (version_text v) rest (print-begins v is)) in
    let none : NoneAt IsHyphenText (text ++ rest) =
    subst (NoneAt IsHyphenText) (sym (append_assoc (operator_text o) (version_text v) rest))
    (operator-no_hyphen o (version_text v ++ rest) ends) in
    grind (arith, simple-none text (Some c) written, operator-begins o (version_text v))

-- the print of a version, and no more: `1.2.3`
pub version-word : (v : VersionValue) → IsTextVersion v → IsPrintedWord (version_text v) [] (exactly v)
version-word v is =
    let text = version_text v in
    let partial = partial-printed v is in
    let written : IsSimpleText text (Some (exactly v)) =
    plain (record { partial = partial_of v; written = partial; says = refl }) in
    let read : read_partial (text ++ []) ≡ Some (partial_of v, []) = partial-again text [] (partial_of v) partial tt in
    let none : read_hyphen (text ++ []) ≡ None =
    hyphen-with_left (text ++ []) (right-none (text ++ []) (partial_of v, []) read) ∙ ap with_left read
    ∙ left-ends (partial_of v) in
    record {
      word = simple (no-hyphen (text ++ []) none) written tt;
      no_bar = simple-none text (Some (exactly v)) written;
      begins = digit-solid text (print-begins v is);
    }
