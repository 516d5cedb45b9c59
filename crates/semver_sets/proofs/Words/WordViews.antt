-- Words, as the readers see them.
use Rattle.std.proofs.lemmas.Grind.{common_steps}
use Rattle.std.proofs.Common.{◌≡◌, ◌≢◌, ◌⊎◌, ◌<◌, ℕ, arith, get_or, length, false, List, [], ◌∷◌, Option}
use Rattle.std.proofs.Common.{Some, None, refl, ap, inl, inr}
use Rattle.std.proofs.lemmas.Bool.{and_parts, cases_Bool, leb-true, ne_eqb}
use Rattle.std.proofs.lemmas.Option.{same_Some}
use Rattle.semver_texts.specs.Characters.{BeginsWithNo, is_blank, is_digit}
use Rattle.semver_sets.specs.PartialText.{Partial}
use Rattle.semver_texts.specs.Reading.{begins, read_number, rest_of, skip_one}
use Rattle.semver_sets.specs.Private.WordReading.{Lead, ReadPartial, Word, lead_comparator, no_lead}
use Rattle.semver_sets.specs.Private.WordReading.{is_not_blank, or_else, or_ignored, read_component}
use Rattle.semver_sets.specs.Private.WordReading.{read_components, read_hyphen, read_lead, read_word}
use Rattle.semver_sets.specs.Private.WordReading.{read_operator, read_partial, read_right, read_simple, said}
use Rattle.semver_sets.specs.Private.WordReading.{said_hyphen, up_to_clean, with_left}
use Rattle.semver_sets.specs.Private.WordViews.{lead_seen}
use Rattle.semver_sets.specs.declared.word.Lead.{Lead as CodeLead}
use Rattle.semver_sets.specs.declared.word.Lead.TheVariants.{Plain}
use Rattle.semver_sets.proofs.Words.LeadReading.{lead-not_partial, lead-plain}
use Rattle.semver_texts.specs.Lemmas.Public.{with_no-begins}

-- ---- leads

-- a lead, or none
pub lead-cases : (l : Lead) → (l ≡ no_lead) ⊎ (l ≡ no_lead → ⊥)
lead-cases l = grind arith

-- the plain one of the code
pub plain-seen : (l : CodeLead) → lead_seen l ≡ no_lead → l ≡ Plain
plain-seen l h1 = grind arith

-- ---- hyphens

-- no right side if the text begins with no blank
right-none : (text : List ℕ) → begins is_blank text ≡ false → read_right text ≡ None
unfolding read_right
right-none text h = rw h refl

-- a hyphen has a left side if the text begins with no blank
hyphen-left : (text : List ℕ) → BeginsWithNo is_blank text → read_hyphen text ≡ with_left (read_partial text)
unfolding read_hyphen
hyphen-left text h = rw (right-none text (with_no-begins is_blank text h)) refl

-- ---- words

-- a text without a first byte
pub no-bytes : (text : List ℕ) → length text < 1 → text ≡ []
no-bytes text h1 = grind (arith, common_steps)

-- a hyphen range, or else a lead and a partial
abbrev pub comparator_at : List ℕ → Option Word
comparator_at text = or_else (read_hyphen text) (read_simple text)

-- after no lead, and after one
at-plain : (text operand : List ℕ) → BeginsWithNo is_blank text → (no_lead, operand) ≡ read_lead text
    → comparator_at text
    ≡ or_else (with_left (read_partial operand)) (said no_lead (up_to_clean (read_partial operand)))
unfolding read_simple
at-plain text operand solid led = grind (arith, lead-plain, hyphen-left)

at-led : (text operand : List ℕ) (l : Lead) → BeginsWithNo is_blank text → (l, operand) ≡ read_lead text
    → (l ≡ no_lead → ⊥) → comparator_at text ≡ said l (up_to_clean (read_partial operand))
unfolding read_simple
at-led text operand l solid led some = grind (arith, hyphen-left, lead-not_partial)

-- a left side ends at a clean end
left-none : (read : ReadPartial) → None ≡ up_to_clean read → with_left read ≡ None
left-none read h1 = grind (arith, cases_Bool, right-none)

left-some : (read : ReadPartial) (p : Partial) (rest : List ℕ) → Some (p, rest) ≡ up_to_clean read
    → with_left read ≡ said_hyphen (Some p) (read_right rest)
left-some read p rest h1 = grind (arith, cases_Bool, same_Some)

-- where no partial follows up to a clean end
pub none-missing : (text operand : List ℕ) (l : Lead) → BeginsWithNo is_blank text → (l, operand) ≡ read_lead text
    → None ≡ up_to_clean (read_partial operand) → None ≡ comparator_at text
none-missing text operand l solid led none = elim (lead-cases l) [
  | inl plain ↦
      let here : (no_lead, operand) ≡ read_lead text = rw plain at led in
      rw (at-plain text operand solid here, left-none (read_partial operand) none, ← none) refl
  | inr some ↦ rw (at-led text operand l solid led some, ← none) refl
]

-- a plain partial before a clean end
pub word-plain : (text operand rest : List ℕ) (p : Partial) → BeginsWithNo is_blank text
    → (no_lead, operand) ≡ read_lead text → Some (p, rest) ≡ up_to_clean (read_partial operand)
    → or_else (said_hyphen (Some p) (read_right rest)) (Some (lead_comparator no_lead p, rest)) ≡ comparator_at text
word-plain text operand rest p solid led read =
    rw (at-plain text operand solid led, left-some (read_partial operand) p rest read, ← read) refl

-- a partial after a lead, or at the end of the text
pub word-led : (text operand rest : List ℕ) (l : Lead) (p : Partial) → BeginsWithNo is_blank text
    → (l, operand) ≡ read_lead text → Some (p, rest) ≡ up_to_clean (read_partial operand)
    → (l ≡ no_lead → rest ≡ []) → Some (lead_comparator l p, rest) ≡ comparator_at text
word-led text operand rest l p solid led read end = elim (lead-cases l) [
  | inl plain ↦
      let here : (no_lead, operand) ≡ read_lead text = rw plain at led in
      let none : read_right rest ≡ None = right-none rest (rw (end plain) refl) in
      rw (plain, at-plain text operand solid here, left-some (read_partial operand) p rest read, none, ← read) refl
  | inr some ↦ rw (at-led text operand l solid led some, ← read) refl
]

-- a word that gives a comparator is read as it, and every other word is passed over
pub kept : (text : List ℕ) (word : Word) → Some word ≡ comparator_at text → word ≡ read_word text
unfolding read_word
kept text word some = ap (λ (w : Option Word). or_ignored w text) some

pub ignored : (text : List ℕ) → None ≡ comparator_at text → (None, rest_of is_not_blank text) ≡ read_word text
unfolding read_word
ignored text none = ap (λ (w : Option Word). or_ignored w text) none

-- ---- first bytes

-- a byte with which no comparator begins
pub record BeginsNone (b : ℕ) : Type 0 where
  pub digit : (b < 48) ⊎ (57 < b)
  pub operator : (b < 60) ⊎ (62 < b)
  pub lead : (b ≢ 94) × (b ≢ 126)
  pub partial : (b ≢ 118) × (b ≢ 120) × (b ≢ 88) × (b ≢ 42)

not-digit : (b : ℕ) → (b < 48) ⊎ (57 < b) → is_digit b ≡ false
not-digit b out = grind (arith, cases_Bool, and_parts, leb-true)

-- there is no lead
none-led : (b : ℕ) (text : List ℕ) → BeginsNone b → (no_lead, b ∷ text) ≡ read_lead (b ∷ text)
unfolding read_lead read_operator
none-led b text none = grind (arith, ne_eqb)

-- and no partial
none-partial : (b : ℕ) (text : List ℕ) → is_blank b ≡ false → BeginsNone b → None ≡ read_partial (b ∷ text)
unfolding read_partial read_components read_component read_number rest_of skip_one
none-partial b text solid none = grind (arith, ne_eqb, not-digit)

-- so there is no comparator
pub none-begins : (text : List ℕ) → BeginsWithNo is_blank text → (0 < length text → BeginsNone (get_or text 0 0))
    → None ≡ comparator_at text
unfolding read_hyphen read_simple read_lead read_partial read_right read_components read_component
    read_number rest_of skip_one
none-begins text h1 h2 = grind (arith, none-missing, none-led, none-partial)
