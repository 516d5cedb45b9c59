-- Identifiers after a piece, and lists of them: where they start decides where they end.
use Rattle.std.proofs.Common.{◌≡◌, ◌+◌, ◌<◌, ◌≤◌, ◌⊎◌, ℕ, Bool, true, false, List, length, sym, ◌∙◌, inl, inr}
use Rattle.std.proofs.Common.{arith, zero, suc}
use Rattle.std.proofs.lemmas.Bool.{cases_Bool}
use Rattle.std.proofs.lemmas.List.{get_or_past}
use Rattle.std.specs.Prelude.{slice_index}
use Rattle.semver_texts.specs.Characters.{dot, is_identifier_character}
use Rattle.npm_semver.specs.CoerceWithPrerelease.{IsRunAt, last, more}
use Rattle.npm_semver.specs.Private.ExtraViews.{IsIdentifierOf, IsListOf, is_character_at}
use Rattle.npm_semver.specs.declared.coercion.extras.Extra.{Extra}
use Rattle.npm_semver.proofs.Versions.Pieces.{below_or_not}

-- ---- runs

-- a test passes or not
pub both : (test : ℕ → Bool) (b : ℕ) → test b ≡ true → test b ≡ false → ⊥
both test b some none = cc (sym some ∙ none)

pub one_run : (test : ℕ → Bool) (text : List ℕ) (start end other : ℕ) → IsRunAt test text start end
    → IsRunAt test text start other → other ≡ end
one_run test text start end other h g = grind arith

-- identifier characters up to one place more
longer : (text : List ℕ) (start place : ℕ)
    → ((other : ℕ) → start ≤ other → other < place → is_character_at text other ≡ true)
    → is_character_at text place ≡ true → (other : ℕ) → start ≤ other → other < place + 1
    → is_character_at text other ≡ true
longer text start place passes goes other from to = grind arith

-- they are inside the text
inside : (text : List ℕ) (place : ℕ) → is_character_at text place ≡ true → place < length text
inside text place goes = grind (arith, below_or_not, both, get_or_past)

-- and go on to the end of a run
pub run_there : (text : List ℕ) (n start place : ℕ) → length text ≤ place + n → place ≤ length text → start < place
    → ((other : ℕ) → start ≤ other → other < place → is_character_at text other ≡ true)
    → (end : ℕ) × (place ≤ end) × IsRunAt is_identifier_character text start end
run_there text (suc n) start place fuel within some passes = elim (cases_Bool (is_character_at text place)) [
  | inr stops ↦ (place, omega arith, record { within = within; some = some; passes = passes; after = stops })
  | inl goes ↦
      grind (arith, run_there text n start (place + 1), inside text place goes, longer text start place passes goes)
]
run_there text zero start place fuel within some passes = grind (arith, cases_Bool (is_character_at text place), inside)

-- ---- identifiers

pub one_identifier : (extra : Extra) (text : List ℕ) (start end other : ℕ) → IsIdentifierOf extra text start end
    → IsIdentifierOf extra text start other → other ≡ end
one_identifier extra text start end other h6 h7 = grind arith

-- one or more identifier characters
pub record AreCharactersAt (text : List ℕ) (start end : ℕ) : Type 0 where
  pub within : end ≤ length text
  pub some : start < end
  pub passes : (place : ℕ) → start ≤ place → place < end → is_character_at text place ≡ true

pub identifier_some : (extra : Extra) (text : List ℕ) (start end : ℕ) → IsIdentifierOf extra text start end
    → start < end
identifier_some extra text start end h5 = grind arith

-- all its characters, with those after a number
pub identifier_characters : (extra : Extra) (text : List ℕ) (start end : ℕ) → IsIdentifierOf extra text start end
    → AreCharactersAt text start end
identifier_characters extra text start end h5 = grind arith

-- ---- lists

pub list_some : (extra : Extra) (text : List ℕ) (start end : ℕ) → IsListOf extra text start end → start < end
list_some extra text start end (last _ _ h) = identifier_some extra text start end h
list_some extra text start end (more _ middle _ h point rest) =
    omega (arith, identifier_some extra text start middle h, list_some extra text (middle + 1) end rest)

pub list_within : (extra : Extra) (text : List ℕ) (start end : ℕ) → IsListOf extra text start end
    → end ≤ length text
list_within extra text start end (last _ _ h) = (identifier_characters extra text start end h).within
list_within extra text start end (more _ middle _ h point rest) = list_within extra text (middle + 1) end rest

-- one more identifier at the end
pub list_on : (extra : Extra) (text : List ℕ) (start end next : ℕ) → IsListOf extra text start end
    → slice_index text end ≡ dot → IsIdentifierOf extra text (end + 1) next → IsListOf extra text start next
list_on extra text start end next (last _ _ h) point g = more start end next h point (last (end + 1) next g)
list_on extra text start end next (more _ middle _ h dash rest) point g =
    more start middle next h dash (list_on extra text (middle + 1) end next rest point g)

-- a list goes on after a place
abbrev pub GoesOn : Extra → List ℕ → (end other : ℕ) → Type 0
GoesOn extra text end other = (slice_index text end ≡ dot) × IsListOf extra text (end + 1) other

-- a list is its first identifier, or goes on after that
pub list_from : (extra : Extra) (text : List ℕ) (start end other : ℕ) → IsIdentifierOf extra text start end
    → IsListOf extra text start other → (other ≤ end) ⊎ GoesOn extra text end other
list_from extra text start end other h h7 = grind (arith, one_identifier)

-- and so after the next one
pub list_next : (extra : Extra) (text : List ℕ) (end next other : ℕ) → IsIdentifierOf extra text (end + 1) next
    → (other ≤ end) ⊎ GoesOn extra text end other → (other ≤ next) ⊎ GoesOn extra text next other
list_next extra text end next other h h7 = grind (arith, identifier_some, list_from)

-- a list begins with an identifier
pub list_first : (extra : Extra) (text : List ℕ) (start end : ℕ) → IsListOf extra text start end
    → (first : ℕ) × IsIdentifierOf extra text start first
list_first extra text start end h5 = grind arith

-- so none goes on where no identifier follows
pub list_stops : (extra : Extra) (text : List ℕ) (end other : ℕ)
    → ((next : ℕ) → ¬ IsIdentifierOf extra text (end + 1) next) → (other ≤ end) ⊎ GoesOn extra text end other
    → other ≤ end
list_stops extra text end other none h6 = grind arith
