-- Sets of values of names, and what rules values out. A value of a name is that none is selected, or a candidate.

use Rattle.std.specs.Prelude.{◌≡◌, ◌≢◌, ◌⊎◌, ℕ, Bool, not, true, false, List, Option, Some, None, ⊤, All, Contains, IfSome, slice_get, slice_index_or}
use Rattle.std.specs.Option.{option_map_or}
use Rattle.version_solving.specs.declared.certificate.Lesson.{Lesson}
use Rattle.version_solving.specs.declared.certificate.Step.{Step}
use Rattle.version_solving.specs.declared.certificate.Step.TheVariants as Steps
use Rattle.version_solving.specs.declared.certificate.Term.{Term}
use Rattle.version_solving.specs.declared.certificate.Values.{Values}
use Rattle.version_solving.specs.declared.demand.Demand.{Demand}
use Rattle.version_solving.specs.Solving.{Fits, Problem, Selection}

-- ---- sets

-- Whether a set has a value.
abbrev pub has : Values → Option ℕ → Bool
has set None = set.none
has set (Some candidate) = slice_index_or set.candidates.items candidate false

abbrev pub has_in : Option Values → Option ℕ → Bool
has_in None value = false
has_in (Some set) value = has set value

-- Whether a value of a name is ruled out.
abbrev pub is_out : List Values → ℕ → Option ℕ → Bool
is_out rows name value = has_in (slice_get rows name) value

-- Nothing that the selection selects is ruled out.
abbrev pub Spares : List Values → Selection → Type 0
Spares rows s = (name : ℕ) → is_out rows name (s name) ≡ false

-- ---- lessons

-- The value that is selected of its name is of the term.
abbrev pub IsMet : Selection → Term → Type 0
IsMet s t = has t.values (s t.name) ≡ true

-- No selection that fits meets all terms.
abbrev pub AreForbidden : Problem → List Term → Type 0
AreForbidden p terms = (s : Selection) → Fits p s → All (IsMet s) terms → ⊥

abbrev pub AreLessons : Problem → List Lesson → Type 0
AreLessons p lessons = All (λ lesson. AreForbidden p lesson.terms.items) lessons

-- ---- demands

-- Whether the demand does not hold of a value of its name.
abbrev pub against : Problem → Demand → Option ℕ → Bool
against p d None = d.needed
against p d (Some candidate) = not (p.allows d.range candidate)

-- One of the demands is of the name, and does not hold of the value.
pub record IsBarredBy (p : Problem) (demands : List Demand) (name : ℕ) (value : Option ℕ) : Type 0 where
  pub demand : Demand
  pub inside : Contains demands demand
  pub named : demand.name ≡ name
  pub fails : against p demand value ≡ true

-- ---- steps

-- A selection that fits and that nothing selected of is ruled out meets the terms of all other names.
abbrev pub MeetsOthers : Selection → ℕ → List Term → Type 0
MeetsOthers s name terms = All (λ t. t.name ≢ name → IsMet s t) terms

abbrev pub AreOthersMet : Problem → List Values → ℕ → List Term → Type 0
AreOthersMet p rows name terms = (s : Selection) → Fits p s → Spares rows s → MeetsOthers s name terms

-- What must be known before a step: of a lesson, that the terms of all other names are met.
abbrev pub IsReady : Problem → List Values → List Lesson → Step → Type 0
IsReady p rows lessons (Steps.Ask place) = ⊤
IsReady p rows lessons (Steps.Own name) = ⊤
IsReady p rows lessons (Steps.Forward asker name) = ⊤
IsReady p rows lessons (Steps.Backward name asked) = ⊤
IsReady p rows lessons (Steps.Learnt number name) = IfSome (slice_get lessons number) (λ lesson. AreOthersMet p rows name lesson.terms.items)

-- No selection that fits and whose values are not ruled out has this value of the name.
abbrev pub IsExcluded : Problem → List Values → ℕ → Option ℕ → Type 0
IsExcluded p rows name value = (s : Selection) → Fits p s → Spares rows s → s name ≢ value

-- The name whose values a step rules out.
abbrev pub name_of : List Demand → Step → ℕ
name_of root (Steps.Ask place) = option_map_or (λ (d : Demand). d.name) (slice_get root place) 0
name_of root (Steps.Own name) = name
name_of root (Steps.Forward asker name) = name
name_of root (Steps.Backward name asked) = name
name_of root (Steps.Learnt number name) = name

-- ---- one value

-- The candidate is ruled out, or one of its demands does not hold of the value of another name.
abbrev pub IsSilent : Problem → List Values → (asker candidate name : ℕ) → Option ℕ → Type 0
IsSilent p rows asker candidate name value = (is_out rows asker (Some candidate) ≡ true) ⊎ IsBarredBy p (p.demands asker candidate) name value

-- The value of the name is ruled out, or one of the demands does not hold of it.
abbrev pub IsGone : Problem → List Values → List Demand → ℕ → Option ℕ → Type 0
IsGone p rows demands name value = (is_out rows name value ≡ true) ⊎ IsBarredBy p demands name value

-- The value is ruled out of the name of the term, or the term has it.
abbrev pub IsHeld : List Values → Term → Option ℕ → Type 0
IsHeld rows t value = (is_out rows t.name value ≡ true) ⊎ (has t.values value ≡ true)

-- The demand of a candidate of the name does not hold together with the candidate.
abbrev pub IsHopeless : Problem → (name candidate : ℕ) → Demand → Type 0
IsHopeless p name candidate d = ((d.name ≡ name) × (p.allows d.range candidate ≡ false)) ⊎ ((d.needed ≡ true) × (p.count d.name ≡ 0))
