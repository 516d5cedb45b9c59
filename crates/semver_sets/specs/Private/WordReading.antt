-- What the private readers of words compute, on lists of bytes. The lemmas of `proofs/` connect it with the meaning of
-- the words. No public contract uses it.
use Rattle.std.specs.Prelude.{ℕ, ◌==◌, not, if◌then◌else◌, Bool, List, [], ◌∷◌, Option, Some, None, Ok, Err}
use Rattle.semver_sets.specs.CaretRanges.{caret_row}
use Rattle.semver_texts.specs.Characters.{caret, dot, equal_sign, greater_sign, hyphen, is_blank, is_partial_mark, is_x}
use Rattle.semver_texts.specs.Characters.{less_sign, tilde}
use Rattle.semver_sets.specs.Comparator.{Comparator}
use Rattle.semver_sets.specs.HyphenRanges.{hyphen_comparator}
use Rattle.semver_texts.specs.IdentifierValue.{IdentifierValue}
use Rattle.semver_sets.specs.Operators.{Operator, equal, greater, greater_or_equal, less}
use Rattle.semver_sets.specs.Operators.{less_or_equal, operator_row, plain_row}
use Rattle.semver_sets.specs.PartialText.{Partial, by_row, plain_partial}
use Rattle.semver_texts.specs.Version.{VersionValue}
use Rattle.semver_sets.specs.TildeRanges.{tilde_greater_row, tilde_row}
use Rattle.semver_texts.specs.Reading.{Read, begins, is_clean_end, read_extras, read_number, rest_of}
use Rattle.semver_texts.specs.Reading.{skip_one}

-- any character but a blank
abbrev pub is_not_blank : ℕ → Bool
is_not_blank b = not (is_blank b)

-- ---- partials

-- a component and the rest, or none
abbrev pub Component : Type 0
Component = Option (Option ℕ × List ℕ)

-- a number, as a component
abbrev pub number_component : Read ℕ → Component
number_component (Ok r) = Some (Some r.0, r.1)
number_component (Err e) = None

-- an x or a number
unfoldable pub read_component : List ℕ → Component
read_component [] = None
read_component (b ∷ rest) = if is_x b then Some (None, rest) else number_component (read_number (b ∷ rest))

-- a partial and the rest, or none
abbrev pub ReadPartial : Type 0
ReadPartial = Option (Partial × List ℕ)

-- a partial of three components and extras
abbrev pub with_extras : Option ℕ → Option ℕ → Option ℕ → List IdentifierValue × List IdentifierValue → Partial
with_extras major minor patch extras =
    record { major = major; minor = minor; patch = patch; pre_release = extras.0; build = extras.1 }

-- the extras after the third component
abbrev pub with_third : Option ℕ → Option ℕ → Component → ReadPartial
with_third major minor None = None
with_third major minor (Some patch) =
    Some (with_extras major minor patch.0 (read_extras patch.1).0, (read_extras patch.1).1)

-- the text after the dot that it begins with, if it begins with one
abbrev pub after_dot : List ℕ → Option (List ℕ)
after_dot [] = None
after_dot (b ∷ rest) = if b == dot then Some rest else None

-- a dot and a third component, or none
abbrev pub patch_after : Option ℕ → Option ℕ → List ℕ → Option (List ℕ) → ReadPartial
patch_after major minor text None = Some (plain_partial major minor None, text)
patch_after major minor text (Some rest) = with_third major minor (read_component rest)

abbrev pub read_from_patch : Option ℕ → Option ℕ → List ℕ → ReadPartial
read_from_patch major minor text = patch_after major minor text (after_dot text)

abbrev pub with_second : Option ℕ → Component → ReadPartial
with_second major None = None
with_second major (Some minor) = read_from_patch major minor.0 minor.1

-- a dot and a second component, or none
abbrev pub minor_after : Option ℕ → List ℕ → Option (List ℕ) → ReadPartial
minor_after major text None = Some (plain_partial major None None, text)
minor_after major text (Some rest) = with_second major (read_component rest)

abbrev pub read_from_minor : Option ℕ → List ℕ → ReadPartial
read_from_minor major text = minor_after major text (after_dot text)

abbrev pub with_first : Component → ReadPartial
with_first None = None
with_first (Some major) = read_from_minor major.0 major.1

-- one to three components
unfoldable pub read_components : List ℕ → ReadPartial
read_components text = with_first (read_component text)

-- an optional mark, optional blanks, and components
unfoldable pub read_partial : List ℕ → ReadPartial
read_partial text = read_components (rest_of is_blank (skip_one is_partial_mark text))

-- that partial, if it ends at a clean end
abbrev pub up_to_clean : ReadPartial → ReadPartial
up_to_clean None = None
up_to_clean (Some r) = if is_clean_end r.1 then Some r else None

-- ---- the beginning of a word, before its partial

-- nothing, an operator, a tilde, a tilde and a `>`, or a caret
pub data Lead : Type 0 where
  no_lead : Lead
  operator : Operator → Lead
  tilde_lead : Lead
  tilde_greater_lead : Lead
  caret_lead : Lead

-- the longer operator if a `=` follows here, else the shorter one
abbrev pub with_equals : Operator → Operator → List ℕ → Operator × List ℕ
with_equals longer shorter [] = (shorter, [])
with_equals longer shorter (b ∷ rest) = if b == equal_sign then (longer, rest) else (shorter, b ∷ rest)

-- the longest operator that a text begins with, and the rest
unfoldable pub read_operator : List ℕ → Option (Operator × List ℕ)
read_operator [] = None
read_operator (b ∷ rest) =
    if b == greater_sign then Some (with_equals greater_or_equal greater rest) else
    if b == equal_sign then Some (equal, rest) else
    if b == less_sign then Some (with_equals less_or_equal less rest) else
    None

-- an operator and the rest without its leading blanks; or no operator, and the text
abbrev pub operator_lead : Option (Operator × List ℕ) → List ℕ → Lead × List ℕ
operator_lead None text = (no_lead, text)
operator_lead (Some read) text = (operator read.0, rest_of is_blank read.1)

-- after a tilde and its blanks: an optional `>` and its blanks
abbrev pub tilde_at : List ℕ → Lead × List ℕ
tilde_at [] = (tilde_lead, [])
tilde_at (b ∷ rest) = if b == greater_sign then (tilde_greater_lead, rest_of is_blank rest) else (tilde_lead, b ∷ rest)

-- the beginning of a word, before its partial, and the rest without its leading blanks
unfoldable pub read_lead : List ℕ → Lead × List ℕ
read_lead [] = (no_lead, [])
read_lead (b ∷ rest) =
    if b == caret then (caret_lead, rest_of is_blank rest) else
    if b == tilde then tilde_at (rest_of is_blank rest) else
    operator_lead (read_operator (b ∷ rest)) (b ∷ rest)

-- the row of a lead
abbrev pub lead_row : Lead → (major minor patch : Option ℕ) (z : VersionValue) → Option Comparator
lead_row no_lead major minor patch z = plain_row major minor patch z
lead_row (operator o) major minor patch z = operator_row o major minor patch z
lead_row tilde_lead major minor patch z = tilde_row major minor patch z
lead_row tilde_greater_lead major minor patch z = tilde_greater_row major minor patch z
lead_row caret_lead major minor patch z = caret_row major minor patch z

-- the comparator that a lead and a partial give
abbrev pub lead_comparator : Lead → Partial → Option Comparator
lead_comparator lead p = by_row (lead_row lead) p

-- ---- words

-- a comparator, if the word gives one, and the rest
abbrev pub Word : Type 0
Word = Option Comparator × List ℕ

abbrev pub said : Lead → ReadPartial → Option Word
said lead None = None
said lead (Some r) = Some (lead_comparator lead r.0, r.1)

-- a lead and a partial up to a clean end
unfoldable pub read_simple : List ℕ → Option Word
read_simple text = said (read_lead text).0 (up_to_clean (read_partial (read_lead text).1))

-- after the blanks before a hyphen: the hyphen, blanks, and a partial up to a clean end
abbrev pub right_at : List ℕ → ReadPartial
right_at [] = None
right_at (b ∷ rest) =
    if b == hyphen then if begins is_blank rest then up_to_clean (read_partial (rest_of is_blank rest)) else None else
    None

-- blanks, a hyphen, blanks, and a partial up to a clean end
unfoldable pub read_right : List ℕ → ReadPartial
read_right text = if begins is_blank text then right_at (rest_of is_blank text) else None

abbrev pub said_hyphen : Option Partial → ReadPartial → Option Word
said_hyphen left None = None
said_hyphen left (Some r) = Some (Some (hyphen_comparator left r.0), r.1)

abbrev pub with_left : ReadPartial → Option Word
with_left None = None
with_left (Some left) = said_hyphen (Some left.0) (read_right left.1)

-- the first word if there is one, else the second
abbrev pub or_else : Option Word → Option Word → Option Word
or_else (Some word) other = Some word
or_else None other = other

-- a hyphen range, with or without a left side
unfoldable pub read_hyphen : List ℕ → Option Word
read_hyphen text = or_else (said_hyphen None (read_right text)) (with_left (read_partial text))

-- that word, or no comparator and the bytes from the next blank on
abbrev pub or_ignored : Option Word → List ℕ → Word
or_ignored (Some word) text = word
or_ignored None text = (None, rest_of is_not_blank text)

-- the word that a text begins with
unfoldable pub read_word : List ℕ → Word
read_word text = or_ignored (or_else (read_hyphen text) (read_simple text)) text

-- a hyphen range without a left side that a text begins with; or no word, and the text
abbrev pub leading_or_none : ReadPartial → List ℕ → Word
leading_or_none None text = (None, text)
leading_or_none (Some right) text = (Some (hyphen_comparator None right.0), right.1)
