-- The numbers and the prerelease of a strict text, as its reader finds them.
use Rattle.std.proofs.Common.{◌≡◌, ◌+◌, ◌-◌, ◌≤◌, ℕ, Bool, List, [], ◌∷◌, length, refl, sym, ap, ◌∙◌}
use Rattle.std.proofs.Common.{inl, inr, arith, drop, subst, suc, take}
use Rattle.std.proofs.lemmas.Bool.{cases_Bool}
use Rattle.std.specs.Prelude.{◌==◌, not}
use Rattle.std.specs.List.{list_all, prefix_len}
use Rattle.semver_texts.specs.Characters.{BeginsWithNo, hyphen}
use Rattle.semver_texts.specs.IdentifierText.{parts_of}
use Rattle.semver_texts.specs.Reading.{prefix_of, rest_of}
use Rattle.npm_semver.specs.Private.StrictViews.{IsStrictUpTo, IsUnstrictFrom, is_listed}
use Rattle.semver_versions.specs.Lemmas.Public.{one_fault, version-no_fault}
use Rattle.npm_semver.specs.StrictLaws.{HasOneStrictFault, IsNeverStrictAndFaulty}
use Rattle.npm_semver.specs.StrictVersionText.{IsStrictlyWritten, IsUnstrictAt, first_failing, identifier, loose}
use Rattle.npm_semver.specs.StrictVersionText.{is_strict_identifier, is_strict_number, number, numbers_text}
use Rattle.npm_semver.specs.StrictVersionText.{prerelease_text, unstrict}
use Rattle.npm_semver.specs.declared.strict.written.Part.TheVariants.{Identifier, Number}
use Rattle.npm_semver.proofs.Versions.StrictParts.{part-length}

-- std's words for the longest prefix whose characters all pass
pub taken : (test : ℕ → Bool) (text : List ℕ) → take (prefix_len test text) text ≡ prefix_of test text
unfolding prefix_of
taken test [] = refl
taken test (b ∷ text) = elim (cases_Bool (test b)) [
  | inl passes ↦
      let one : 1 + prefix_len test text ≡ suc (prefix_len test text) = omega arith in
      rw (passes, one) (ap (λ (l : List ℕ). b ∷ l) (taken test text))
  | inr stops ↦ rw stops refl
]

-- what follows the first hyphen
abbrev behind : List ℕ → List ℕ
behind text = drop (prefix_len (λ b. not (b == hyphen)) text + 1) text

-- the identifiers after the hyphen
behind-hyphen : (text identifiers : List ℕ) → rest_of (is_listed Number) text ≡ hyphen ∷ identifiers
    → behind (prefix_of (is_listed Identifier) text) ≡ prefix_of (is_listed Identifier) identifiers
unfolding prefix_of rest_of
behind-hyphen [] identifiers e = cc e
behind-hyphen (b ∷ text) identifiers e = grind (arith, behind-hyphen text identifiers)

-- nothing, if there is no hyphen before the build
behind-none : (text : List ℕ) → BeginsWithNo (λ b. b == hyphen) (rest_of (is_listed Number) text)
    → behind (prefix_of (is_listed Identifier) text) ≡ []
unfolding prefix_of rest_of
behind-none [] none = refl
behind-none (b ∷ text) none = grind (arith, behind-none text)

-- the numbers
numbers-are : (text : List ℕ) → numbers_text text ≡ prefix_of (is_listed Number) text
numbers-are text = taken (is_listed Number) text

-- and the prerelease
prerelease-hyphen : (text identifiers : List ℕ) → rest_of (is_listed Number) text ≡ hyphen ∷ identifiers
    → prerelease_text text ≡ prefix_of (is_listed Identifier) identifiers
prerelease-hyphen text identifiers e =
    ap behind (taken (is_listed Identifier) text) ∙ behind-hyphen text identifiers e

prerelease-none : (text : List ℕ) → BeginsWithNo (λ b. b == hyphen) (rest_of (is_listed Number) text)
    → prerelease_text text ≡ []
prerelease-none text none = ap behind (taken (is_listed Identifier) text) ∙ behind-none text none

-- ---- what the reader found

-- all numbers, and no prerelease after a hyphen
pub strict-numbers : (text rest : List ℕ) → IsStrictUpTo Number text rest → BeginsWithNo (λ b. b == hyphen) rest
    → IsStrictlyWritten text
strict-numbers text rest h none = grind (arith, numbers-are, prerelease-none)

-- all numbers and all identifiers
pub strict-all : (text rest identifiers others : List ℕ) → IsStrictUpTo Number text rest → rest ≡ hyphen ∷ identifiers
    → IsStrictUpTo Identifier identifiers others → IsStrictlyWritten text
strict-all text rest identifiers others h e g = grind (arith, numbers-are, prerelease-hyphen)

-- a number that is not strictly written
pub unstrict-number : (text : List ℕ) (left : ℕ) → IsUnstrictFrom Number text left
    → IsUnstrictAt text (length text - left)
unstrict-number text left h =
    subst (IsUnstrictAt text)
    (ap (first_failing is_strict_number) (numbers-are text) ∙ h.offset)
    (number (ap (λ (l : List ℕ). list_all is_strict_number (parts_of l)) (numbers-are text) ∙ h.unstrict))

-- an identifier that is not
pub unstrict-within : (text rest identifiers : List ℕ) (left : ℕ) → IsStrictUpTo Number text rest
    → rest ≡ hyphen ∷ identifiers → IsUnstrictFrom Identifier identifiers left → left ≤ length text
unstrict-within text rest identifiers left h e g = grind (arith, part-length)

pub unstrict-identifier : (text rest identifiers : List ℕ) (left : ℕ) → IsStrictUpTo Number text rest
    → rest ≡ hyphen ∷ identifiers → IsUnstrictFrom Identifier identifiers left
    → IsUnstrictAt text (length text - left)
unstrict-identifier text rest identifiers left h e g =
    let read = prerelease-hyphen text identifiers (sym h.follows ∙ e) in
    let place : first_failing is_strict_identifier (prerelease_text text) ≡ length identifiers - left =
    ap (first_failing is_strict_identifier) read ∙ g.offset in
    let size = part-length (is_listed Number) text hyphen identifiers (sym h.follows ∙ e) in
    let numbers : length (numbers_text text) ≡ length (prefix_of (is_listed Number) text) = ap length (numbers-are text)
    in
    subst (IsUnstrictAt text) (omega (arith, place, numbers, size, g.within))
    (identifier (ap (λ (l : List ℕ). list_all is_strict_number (parts_of l)) (numbers-are text) ∙ h.strict)
    (ap (λ (l : List ℕ). list_all is_strict_identifier (parts_of l)) read ∙ g.unstrict))

-- what has such a place is not strictly written
pub unstrict-not : (text : List ℕ) (offset : ℕ) → IsUnstrictAt text offset → ¬ IsStrictlyWritten text
unstrict-not text offset h3 s = grind arith

-- ---- one fault

-- a text has one such place at most
one-place : (text : List ℕ) (m n : ℕ) → IsUnstrictAt text m → IsUnstrictAt text n → m ≡ n
one-place text m n h4 h5 = grind arith

-- and one strict fault
pub one_strict_fault : (text : List ℕ) → HasOneStrictFault text
one_strict_fault text k l m n (loose _ _ h) (loose _ _ g) = one_fault text k l m n h g
one_strict_fault text k l m n (loose _ _ h) (unstrict v _ read at) = absurd (version-no_fault text v k m read h)
one_strict_fault text k l m n (unstrict v _ read at) (loose _ _ g) = absurd (version-no_fault text v l n read g)
one_strict_fault text k l m n (unstrict v _ read at) (unstrict w _ again there) = (refl, one-place text m n at there)

-- a strict version text has none
pub strict-no_fault : (text : List ℕ) → IsNeverStrictAndFaulty text
strict-no_fault text v kind offset h (loose _ _ g) = version-no_fault text v kind offset h.version g
strict-no_fault text v kind offset h (unstrict w _ read at) = unstrict-not text offset at h.strict
