-- Partials, as the readers see them.
use Rattle.std.proofs.Common.{◌≡◌, ◌≢◌, ◌<◌, ◌≤◌, ℕ, arith, ◌-◌, drop, get_or, length, take, true, List, [], ◌∷◌}
use Rattle.std.proofs.Common.{Ok, Option, Some, None, refl, sym}
use Rattle.std.proofs.lemmas.Bool.{ne_eqb}
use Rattle.std.proofs.lemmas.List.{take_all}
use Rattle.semver_texts.specs.declared.TheConstants.{MAX_SAFE_INTEGER}
use Rattle.semver_texts.specs.Lemmas.Public.{clean_extras, digit-begins_no_x, digit-no_blank}
use Rattle.semver_texts.specs.Lemmas.Public.{digit-no_partial_mark, number-digit, number-takes}
use Rattle.semver_texts.specs.Characters.{BeginsWith, BeginsWithNo, dot, is_blank, is_digit, is_partial_mark, is_x}
use Rattle.semver_sets.specs.PartialText.{Partial, plain_partial}
use Rattle.semver_sets.specs.Private.RangeViews.{IsFullNumbers}
use Rattle.semver_texts.specs.Reading.{read_extras, read_number}
use Rattle.semver_texts.specs.Reading.{rest_of, skip_one}
use Rattle.semver_sets.specs.Private.WordReading.{after_dot, read_component, read_components, read_from_minor}
use Rattle.semver_sets.specs.Private.WordReading.{read_from_patch, read_partial, with_extras}

-- ---- components

-- the text after the first byte
pub behind-first : (first : ℕ) (rest : List ℕ) → 0 < length rest → get_or rest 0 0 ≡ first
    → rest ≡ first ∷ take (length rest - 1) (drop 1 rest)
behind-first first rest h1 h2 = grind (arith, take_all)

-- a number before a dot
pub dotted-number : (text behind : List ℕ) (number : ℕ) → Ok (number, behind) ≡ read_number text → 0 < length behind
    → get_or behind 0 0 ≡ 46 → Ok (number, dot ∷ take (length behind - 1) (drop 1 behind)) ≡ read_number text
dotted-number text behind number read some first = grind (arith, behind-first)

-- a number that is read is a component
pub component-number : (text rest : List ℕ) (number : ℕ) → Ok (number, rest) ≡ read_number text → BeginsWithNo is_x text
    → Some (Some number, rest) ≡ read_component text
unfolding read_component read_number
component-number text rest number h1 h2 = grind arith

-- no number above the limit is read
pub number-limit : (text rest : List ℕ) (number : ℕ) → Ok (number, rest) ≡ read_number text → number ≤ MAX_SAFE_INTEGER
number-limit text rest number h = (number-takes text number rest (sym h)).read.limit

-- the extras of the empty text
no-extras : read_extras [] ≡ (([], []), [])
no-extras = clean_extras [] refl

-- where no dot follows, there is no component more
pub no-dot : (text : List ℕ) → (0 < length text → get_or text 0 0 ≢ 46) → None ≡ after_dot text
no-dot text h1 = grind (arith, ne_eqb)

minor-none : (major : Option ℕ) (text : List ℕ) (p : Partial) → None ≡ after_dot text
    → p ≡ with_extras major None None (read_extras []).0 → Some (p, text) ≡ read_from_minor major text
minor-none major text p none whole = rw (← none, whole, no-extras) refl

patch-none : (major minor : Option ℕ) (text : List ℕ) (p : Partial) → None ≡ after_dot text
    → p ≡ with_extras major minor None (read_extras []).0 → Some (p, text) ≡ read_from_patch major minor text
patch-none major minor text p none whole = rw (← none, whole, no-extras) refl

-- one component, or two
pub major-alone : (text rest : List ℕ) (major : Option ℕ) (p : Partial) → Some (major, rest) ≡ read_component text
    → None ≡ after_dot rest → p ≡ with_extras major None None (read_extras []).0 → Some (p, rest) ≡ read_components text
unfolding read_components
major-alone text rest major p read none whole = rw (← read) (minor-none major rest p none whole)

pub major-and-minor : (text behind second rest : List ℕ) (major minor : Option ℕ) (p : Partial)
    → Some (major, behind) ≡ read_component text → behind ≡ dot ∷ second → Some (minor, rest) ≡ read_component second
    → None ≡ after_dot rest → p ≡ with_extras major minor None (read_extras []).0 → Some (p, rest) ≡ read_components
    text
unfolding read_components
major-and-minor text behind second rest major minor p one dotted two none whole = grind (arith, patch-none)

-- ---- full versions

-- a text that begins with a digit begins with no mark and no blank
digit-begins : (text : List ℕ) → BeginsWith is_digit text → rest_of is_blank (skip_one is_partial_mark text) ≡ text
unfolding rest_of skip_one
digit-begins text h1 = grind (arith, digit-no_partial_mark, digit-no_blank)

-- a number as a component
pub number-component : (text rest : List ℕ) (number : ℕ) → Ok (number, rest) ≡ read_number text
    → Some (Some number, rest) ≡ read_component text
number-component text rest number h = grind (arith, component-number, digit-begins_no_x, number-digit)

-- three numbers with dots between them, and nothing else: as components, and as a partial
module _ (text second third : List ℕ) (major minor patch : ℕ) (one : Ok (major, dot ∷ second) ≡ read_number text)
    (two : Ok (minor, dot ∷ third) ≡ read_number second) (three : Ok (patch, []) ≡ read_number third) where
  full-components : Some (plain_partial (Some major) (Some minor) (Some patch), []) ≡ read_components text
  unfolding read_components
  full-components = grind (arith, number-component, no-extras)

  pub full-numbers : IsFullNumbers text major minor patch
  unfolding read_partial
  full-numbers = grind (arith, number-digit, full-components, digit-begins, number-limit)

-- the same by the first byte
pub digit-first_byte : (text : List ℕ) → 0 < length text → is_digit (get_or text 0 0) ≡ true
    → text ≡ rest_of is_blank (skip_one is_partial_mark text)
digit-first_byte text h1 h2 = grind (arith, digit-begins)
