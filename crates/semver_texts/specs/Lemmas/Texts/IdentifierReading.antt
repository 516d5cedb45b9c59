-- Lists of identifiers: the reader reads exactly these texts.
use Rattle.std.proofs.Common.{arith}
use Rattle.std.proofs.Common.{◌≡◌, ◌⊎◌, ℕ, Bool, true, false, List, [], ◌∷◌, ◌++◌, refl, ap, inl, inr}
use Rattle.std.proofs.Common.{append-nil}
use Rattle.std.proofs.lemmas.Bool.{and_parts, cases_Bool}
use Rattle.std.specs.Prelude.{◌==◌, ◌||◌, map}
use Rattle.std.specs.List.{AllByRecursion}
use Rattle.semver_texts.specs.Characters.{AreAll, BeginsWith, BeginsWithNo, is_identifier_character, plus, dot}
use Rattle.semver_texts.specs.IdentifierText.{IsIdentifierList, IsIdentifierText, identifier_of, parts_of}
use Rattle.semver_texts.specs.IdentifierValue.{IdentifierValue}
use Rattle.semver_texts.specs.Reading.{begins, goes_on, list_rest, list_prefix, list_values}
use Rattle.semver_texts.specs.Lemmas.Texts.Characters.{character-no_dot}

-- The parts of a list that goes on from some earlier characters: the first part may be empty, the others are
-- identifiers.
pub record GoOn (parts : List (List ℕ)) : Type 0 where
  pub first : List ℕ
  pub others : List (List ℕ)
  pub whole : parts ≡ first ∷ others
  pub characters : AreAll is_identifier_character first
  pub identifiers : AllByRecursion IsIdentifierText others

-- a text has at least one part
pub parts-shape : (text : List ℕ) → (first : List ℕ) × (others : List (List ℕ)) × (parts_of text ≡ first ∷ others)
parts-shape [] = ([], [], refl)
parts-shape (b ∷ rest) = elim (cases_Bool (b == dot)) [
  | inl here ↦ ([], parts_of rest, rw here refl)
  | inr other ↦
      let r = parts-shape rest in
      (b ∷ r.0, r.1, rw (other, r.2) refl)
]

-- the parts from a dot on, and from any other character on
pub parts-dot : (b : ℕ) (rest : List ℕ) → (b == dot) ≡ true → parts_of (b ∷ rest) ≡ [] ∷ parts_of rest
parts-dot b rest here = rw here refl

pub parts-other : (b : ℕ) (rest first : List ℕ) (others : List (List ℕ)) → (b == dot) ≡ false
    → parts_of rest ≡ first ∷ others → parts_of (b ∷ rest) ≡ (b ∷ first) ∷ others
parts-other b rest first others other shape = rw (other, shape) refl

-- a list goes on at an identifier character, and at a dot before one
pub goes_on-character : (b : ℕ) (rest : List ℕ) → is_identifier_character b ≡ true → goes_on (b ∷ rest) ≡ true
goes_on-character b rest h = rw h refl

-- and nowhere else
goes_on-cases : (b : ℕ) (rest : List ℕ) → goes_on (b ∷ rest) ≡ true
    → (is_identifier_character b ≡ true) ⊎ (((b == dot) ≡ true) × (begins is_identifier_character rest ≡ true))
goes_on-cases b rest h = grind arith

-- the two together are the text
pub list-whole : (text : List ℕ) → list_prefix text ++ list_rest text ≡ text
unfolding list_prefix list_rest
list-whole [] = refl
list-whole (b ∷ rest) = grind (arith, list-whole rest)

-- the first character of the longest list
list-begins : (text : List ℕ) → begins is_identifier_character text ≡ true
    → BeginsWith is_identifier_character (list_prefix text)
unfolding list_prefix
list-begins text h = grind arith

-- a first part that is not empty begins as the text does
first-begins : (text first : List ℕ) (others : List (List ℕ)) → parts_of text ≡ first ∷ others
    → BeginsWith is_identifier_character text → BeginsWith is_identifier_character first
first-begins text first others shape h = grind arith

-- the parts of a list of identifiers
pub go-on : (text : List ℕ) → AllByRecursion IsIdentifierText (parts_of text) → GoOn (parts_of text)
go-on text all = grind (arith, parts-shape text)

-- it begins with an identifier character
pub all-begins : (text : List ℕ) → AllByRecursion IsIdentifierText (parts_of text)
    → BeginsWith is_identifier_character text
all-begins text all = grind (arith, parts-shape)

-- and a list that goes on and begins so is one of identifiers
all-texts : (text : List ℕ) → GoOn (parts_of text) → BeginsWith is_identifier_character text
    → AllByRecursion IsIdentifierText (parts_of text)
all-texts text g begin = grind (arith, first-begins)

-- a list that goes on, after its first character
pub go-on-other : (b : ℕ) (text : List ℕ) → (b == dot) ≡ false → GoOn (parts_of (b ∷ text))
    → (is_identifier_character b ≡ true) × GoOn (parts_of text)
go-on-other b text other g = grind (arith, parts-shape text, parts-other, and_parts)

-- the longest list goes on
list-goes : (text : List ℕ) → GoOn (parts_of (list_prefix text))
unfolding list_prefix
list-goes [] = record { first = []; others = []; whole = refl; characters = refl; identifiers = tt }
list-goes (b ∷ rest) = elim (cases_Bool (goes_on (b ∷ rest))) [
  | inr stops ↦ rw stops (record { first = []; others = []; whole = refl; characters = refl; identifiers = tt })
  | inl goes ↦
      let r = list-goes rest in
      elim (goes_on-cases b rest goes) [
        | inl character ↦ grind (arith, parts-other b (list_prefix rest) r.first r.others, character-no_dot b character)
        | inr w ↦
            grind (arith, parts-dot b (list_prefix rest) w.0, all-texts (list_prefix rest) r, list-begins rest w.1)
      ]
]

-- the longest list at the start of a text that begins with an identifier character is a list of identifiers
pub list-takes : (text : List ℕ) → begins is_identifier_character text ≡ true
    → IsIdentifierList (list_prefix text) (list_values text)
list-takes text h = grind (arith, all-texts, list-goes, list-begins)

-- a list that goes on is passed, whatever follows it
pub list-through : (list rest : List ℕ) → GoOn (parts_of list)
    → (list_prefix (list ++ rest) ≡ list ++ list_prefix rest) × (list_rest (list ++ rest) ≡ list_rest rest)
unfolding list_prefix list_rest
list-through [] rest g = (refl, refl)
list-through (b ∷ list) rest g = grind (arith, parts-dot, all-begins list, list-through list rest)

-- where a list stops
pub list-none : (rest : List ℕ) → goes_on rest ≡ false → (list_prefix rest ≡ []) × (list_rest rest ≡ rest)
unfolding list_prefix list_rest
list-none rest stops = grind arith

-- a list that goes on is read to its end, where nothing goes on after it
list-on : (list rest : List ℕ) → GoOn (parts_of list) → goes_on rest ≡ false
    → (list_prefix (list ++ rest) ≡ list) × (list_rest (list ++ rest) ≡ rest)
list-on list rest g stops = grind (arith, list-through list rest g, list-none rest stops, append-nil list)

-- what a list of identifiers is read as
pub record ReadsList (list rest : List ℕ) (identifiers : List IdentifierValue) : Type 0 where
  pub starts : BeginsWith is_identifier_character list
  pub values : list_values (list ++ rest) ≡ identifiers
  pub behind : list_rest (list ++ rest) ≡ rest

pub list-again : (list rest : List ℕ) (identifiers : List IdentifierValue) → IsIdentifierList list identifiers
    → goes_on rest ≡ false → ReadsList list rest identifiers
list-again list rest identifiers h stops =
    grind (arith, list-on list rest (go-on list h.parts) stops, go-on list h.parts, all-begins list h.parts)

-- the characters of extras
abbrev is_of_extras : ℕ → Bool
is_of_extras b = is_identifier_character b || (b == dot) || (b == plus)

-- nothing of extras begins here
abbrev pub EndsExtras : List ℕ → Type 0
EndsExtras rest = BeginsWithNo is_of_extras rest

-- nor of a list of identifiers
abbrev pub is_of_list : ℕ → Bool
is_of_list b = is_identifier_character b || (b == dot)

pub ends-list : (rest : List ℕ) → EndsExtras rest → BeginsWithNo is_of_list rest
ends-list rest h = grind arith

pub ends-plus : (rest : List ℕ) → EndsExtras rest → BeginsWithNo (λ b. b == plus) rest
ends-plus rest h = grind arith

pub stops-list : (rest : List ℕ) → BeginsWithNo is_of_list rest → goes_on rest ≡ false
stops-list rest h = grind arith

-- the identifiers of a text that begins with one are some
pub some-values : (text : List ℕ)
    → (first : IdentifierValue) × (others : List IdentifierValue) × (list_values text ≡ first ∷ others)
some-values text =
    let r = parts-shape (list_prefix text) in
    (identifier_of r.0, map identifier_of r.1, ap (λ (l : List (List ℕ)). map identifier_of l) r.2)
