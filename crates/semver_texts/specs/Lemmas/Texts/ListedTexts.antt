-- Texts of identifiers: their first identifier, and those after it.
use Rattle.std.proofs.Common.{◌≡◌, ◌<◌, ◌-◌, ◌≤◌, ℕ, true, List, [], ◌∷◌, ◌++◌, refl, sym, inl, inr}
use Rattle.std.proofs.Common.{arith, length, length-append, drop, take}
use Rattle.std.proofs.lemmas.List.{take_rest}
use Rattle.std.proofs.lemmas.Bool.{cases_Bool, eqb-true}
use Rattle.std.proofs.Math.Seq.{take-append_seam}
use Rattle.std.specs.Prelude.{◌==◌}
use Rattle.std.specs.List.{AllByRecursion}
use Rattle.semver_texts.specs.Characters.{BeginsWithNo, is_identifier_character, dot}
use Rattle.semver_texts.specs.IdentifierText.{IsIdentifierText, IsListed, parts_of}
use Rattle.semver_texts.specs.IdentifierText.{texts_of}
use Rattle.semver_texts.specs.Private.ListedViews.{IsFirstSplit, IsListSplit, is_inner}
use Rattle.semver_texts.specs.Reading.{begins, list_prefix, list_rest, prefix_of, read_list_or, rest_of}
use Rattle.semver_texts.specs.Lemmas.Texts.Characters.{character-no_dot}
use Rattle.semver_texts.specs.Lemmas.Texts.Prefixes.{prefix_of-rest_of, rest-short}
use Rattle.semver_texts.specs.Lemmas.Texts.ExtrasReading.{read_list_or-some}
use Rattle.semver_texts.specs.Lemmas.Texts.IdentifierReading.{GoOn, go-on, go-on-other, list-takes, list-whole}
use Rattle.semver_texts.specs.Lemmas.Texts.IdentifierReading.{parts-other}

-- where the first part ends: at the end of the text, or at a dot
pub data FirstPart (text : List ℕ) : Type 0 where
  alone : rest_of is_identifier_character text ≡ [] → parts_of text ≡ prefix_of is_identifier_character text ∷ []
      → FirstPart text
  before : (next : List ℕ) → rest_of is_identifier_character text ≡ dot ∷ next
      → parts_of text ≡ prefix_of is_identifier_character text ∷ parts_of next → FirstPart text

pub first-part : (text : List ℕ) → GoOn (parts_of text) → FirstPart text
unfolding prefix_of rest_of
first-part [] g = alone refl refl
first-part (b ∷ rest) g = elim (cases_Bool (b == dot)) [
  | inl here ↦
      let is : b ≡ dot = eqb-true b dot here in
      before rest (rw is refl) (rw is refl)
  | inr other ↦
      let after = go-on-other b rest other g in
      let characters = after.0 in
      elim (first-part rest after.1) [
        | alone end parts ↦ alone (rw characters end)
            (rw characters (parts-other b rest (prefix_of is_identifier_character rest) [] other parts))
        | before next end parts ↦ before next (rw characters end)
            (rw characters (parts-other b rest (prefix_of is_identifier_character rest) (parts_of next) other parts))
      ]
]

-- a text whose parts are identifiers is not empty
pub parts-texts : (text : List ℕ) → AllByRecursion IsIdentifierText (parts_of text) → texts_of text ≡ parts_of text
parts-texts text all = grind arith

-- the first identifier of a list and the rest of the text, if others follow it after a dot
pub first-before : (text rest : List ℕ) (d : ℕ) → IsListed text → 0 < length text
    → rest_of is_identifier_character text ≡ d ∷ rest
    → IsFirstSplit text (prefix_of is_identifier_character text) rest
first-before text rest d listed some end = grind (arith, first-part, go-on, parts-texts)

-- an identifier of a list ends where a dot does, or the text
pub record EndsAtDot (text : List ℕ) : Type 0 where
  pub prefix : prefix_of is_inner text ≡ prefix_of is_identifier_character text
  pub rest : rest_of is_inner text ≡ rest_of is_identifier_character text

ends-at_dot : (text : List ℕ) → BeginsWithNo is_inner (rest_of is_identifier_character text) → EndsAtDot text
unfolding prefix_of rest_of
ends-at_dot [] ends = record { prefix = refl; rest = refl }
ends-at_dot (b ∷ text) ends = grind (arith, ends-at_dot text, character-no_dot)

pub listed-ends : (text : List ℕ) → IsListed text → 0 < length text → EndsAtDot text
listed-ends [] listed some = absurd (omega arith)
listed-ends (b ∷ text) listed some = elim (first-part (b ∷ text) (go-on (b ∷ text) listed)) [
  | alone there parts ↦ ends-at_dot (b ∷ text) (rw there tt)
  | before next there parts ↦ ends-at_dot (b ∷ text) (rw there refl)
]

-- what a reader of an identifier returned is the first identifier of the list, if nothing follows it
pub split-alone : (text part rest : List ℕ) → IsListed text → 0 < length text
    → part ≡ prefix_of is_identifier_character text → rest ≡ rest_of is_identifier_character text → length rest < 1
    → IsFirstSplit text part rest
split-alone text part [] listed some part_is rest_is none = grind (arith, first-part, go-on)
split-alone text part (d ∷ rest) listed some part_is rest_is none = absurd (omega arith)

pub split-before : (text part rest : List ℕ) → IsListed text → 0 < length text
    → part ≡ prefix_of is_identifier_character text → rest ≡ rest_of is_identifier_character text → 1 ≤ length rest
    → IsFirstSplit text part (take (length rest - 1) (drop 1 rest))
split-before text part [] listed some part_is rest_is more = absurd (omega arith)
split-before text part (d ∷ rest) listed some part_is rest_is more =
    grind (arith, take_rest (d ∷ rest) 1, first-before text rest d listed some (sym rest_is))

pub split-shorter : (text rest : List ℕ) → rest ≡ rest_of is_identifier_character text → 1 ≤ length rest
    → length (take (length rest - 1) (drop 1 rest)) < length text
split-shorter text rest rest_is more =
    grind (arith, take_rest rest 1, prefix_of-rest_of is_identifier_character text, length-append)

-- the rest of a list is no longer than the text
pub list_rest-short : (text : List ℕ) → length (list_rest text) ≤ length text
list_rest-short text = rest-short text _ (list_rest text) (sym (list-whole text))

take-first : (a b : List ℕ) → take (length (a ++ b) - length b) (a ++ b) ≡ a
take-first a b = grind (arith, length-append a b, take-append_seam a b)

-- what is before the rest of a list is the list
pub list-before : (text : List ℕ) → take (length text - length (list_rest text)) text ≡ list_prefix text
list-before text = grind (arith, list-whole text, take-first (list_prefix text) (list_rest text))

-- the longest list at the start of a text that begins with an identifier character
pub split-some : (otherwise text list rest : List ℕ) → begins is_identifier_character text ≡ true
    → list ≡ list_prefix text → rest ≡ list_rest text → IsListSplit (read_list_or otherwise text) list rest
split-some otherwise text list rest some list_is rest_is = grind (arith, read_list_or-some, list-takes, parts-texts)
