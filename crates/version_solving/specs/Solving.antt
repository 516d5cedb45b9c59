-- Versions that fit together. Nothing here says how they are found.
-- Names, the candidates of a name and ranges are numbers, from 0.

use Rattle.std.specs.Prelude.{◌≡◌, ◌<◌, ◌&&◌, ◌==◌, ◌++◌, ℕ, Bool, true, false, List, [], ◌∷◌, Option, Some, None, is_none, MatchOption, All, Contains, if◌then◌else◌}
use Rattle.version_solving.specs.declared.demand.Demand.{Demand}
use Rattle.version_solving.specs.declared.outcome.Choice.{Choice}

-- ---- the problem

-- The demands of the root; how many candidates a name has, the best first; the demands of a candidate of a name; and whether
-- a range allows a candidate.
pub record Problem : Type 0 where
  pub root : List Demand
  pub count : ℕ → ℕ
  pub demands : ℕ → ℕ → List Demand
  pub allows : ℕ → ℕ → Bool

-- ---- selections

-- At most one candidate for each name.
abbrev pub Selection : Type 0
Selection = ℕ → Option ℕ

-- A needed name is selected, and a selected name has an allowed candidate.
abbrev pub Holds : Problem → Selection → Demand → Type 0
Holds p s d = MatchOption (s d.name) (d.needed ≡ false) (λ candidate. p.allows d.range candidate ≡ true)

-- Every demand of the root and of each selected candidate holds.
pub record Fits (p : Problem) (s : Selection) : Type 0 where
  pub existing : (name candidate : ℕ) → s name ≡ Some candidate → candidate < p.count name
  pub root : All (Holds p s) p.root
  pub candidates : (name candidate : ℕ) → s name ≡ Some candidate → All (Holds p s) (p.demands name candidate)

-- The root needs the name, or a selected candidate does whose own name is needed, step by step from the root.
pub data IsNeeded (p : Problem) (s : Selection) : ℕ → Type 0 where
  by_root : (d : Demand) → Contains p.root d → d.needed ≡ true → IsNeeded p s d.name
  by_candidate : (name candidate : ℕ) (d : Demand) → IsNeeded p s name → s name ≡ Some candidate → Contains (p.demands name candidate) d → d.needed ≡ true → IsNeeded p s d.name

-- Each selected name is needed.
abbrev pub IsGrounded : Problem → Selection → Type 0
IsGrounded p s = (name candidate : ℕ) → s name ≡ Some candidate → IsNeeded p s name

-- ---- choices: a list of them has the last one first

-- What the choices select.
abbrev pub selection_of : List Choice → Selection
selection_of [] name = None
selection_of (choice ∷ earlier) name = if choice.name == name then Some choice.candidate else selection_of earlier name

-- The selection keeps the choices.
abbrev pub Keeps : Selection → List Choice → Type 0
Keeps s choices = (name candidate : ℕ) → selection_of choices name ≡ Some candidate → s name ≡ Some candidate

-- No selection that fits keeps the choices.
abbrev pub NoneFits : Problem → List Choice → Type 0
NoneFits p choices = (s : Selection) → Fits p s → Keeps s choices → ⊥

-- The demands of the root, and of each choice, in the order in which they were made.
abbrev pub demands_so_far : Problem → List Choice → List Demand
demands_so_far p [] = p.root
demands_so_far p (choice ∷ earlier) = demands_so_far p earlier ++ p.demands choice.name choice.candidate

-- The demand needs a name that has no candidate.
abbrev pub is_open : Selection → Demand → Bool
is_open s d = d.needed && is_none (s d.name)

-- The name of the first open demand.
abbrev pub first_open : Selection → List Demand → Option ℕ
first_open s [] = None
first_open s (d ∷ more) = if is_open s d then Some d.name else first_open s more

-- The name that is chosen next: the one that is needed first.
abbrev pub next_name : Problem → List Choice → Option ℕ
next_name p choices = first_open (selection_of choices) (demands_so_far p choices)

-- Each choice is of the next name, and no earlier candidate of that name could have been chosen, the earlier choices kept.
abbrev pub AreFirst : Problem → List Choice → Type 0
AreFirst p [] = Unit {0}
AreFirst p (choice ∷ earlier) =
    AreFirst p earlier × (next_name p earlier ≡ Some choice.name)
    × ((better : ℕ) → better < choice.candidate → NoneFits p (record { name = choice.name; candidate = better } ∷ earlier))

-- ---- the answer

-- The selection of these choices fits and is grounded, no choice could have been better, and no name is left to be chosen.
pub record IsTheSelection (p : Problem) (choices : List Choice) : Type 0 where
  pub fits : Fits p (selection_of choices)
  pub grounded : IsGrounded p (selection_of choices)
  pub first : AreFirst p choices
  pub complete : next_name p choices ≡ None
