-- What the definitions say of small problems.
use Rattle.std.proofs.Common.{◌≡◌, ◌<◌, ◌∷◌, ℕ, Bool, List, [], Option, Some, None, MatchOption, true, false, zero, suc, arith, refl}
use Rattle.version_solving.specs.declared.demand.Demand.{Demand}
use Rattle.version_solving.specs.declared.outcome.Choice.{Choice}
use Rattle.version_solving.specs.Solving.{Holds, NoneFits, Problem, next_name, selection_of}

-- ---- an app, and the library that it and its plugin need: names 0, 1 and 2

abbrev need : ℕ → ℕ → Demand
need name range = record { name = name; range = range; needed = true }

abbrev limit : ℕ → ℕ → Demand
limit name range = record { name = name; range = range; needed = false }

-- range 0 allows every candidate, range 1 the first alone, and range 2 the second alone
abbrev is_allowed : ℕ → ℕ → Bool
is_allowed zero candidate = true
is_allowed (suc zero) zero = true
is_allowed (suc zero) (suc candidate) = false
is_allowed (suc (suc range)) zero = false
is_allowed (suc (suc range)) (suc zero) = true
is_allowed (suc (suc range)) (suc (suc candidate)) = false

-- the first candidate of name 0 needs the first of name 1, and its second candidate needs nothing
abbrev demands_of : ℕ → ℕ → List Demand
demands_of zero zero = need 1 1 ∷ []
demands_of zero (suc candidate) = []
demands_of (suc name) candidate = []

abbrev with_root : List Demand → Problem
with_root root = record { root = root; count = λ name. 2; demands = demands_of; allows = is_allowed }

abbrev choice : ℕ → ℕ → Choice
choice name candidate = record { name = name; candidate = candidate }

-- the root needs both names, and the second candidate of name 1
abbrev both : Problem
both = with_root (need 0 0 ∷ need 1 2 ∷ [])

-- ---- what is needed next

pub the_first_name_of_the_root_comes_first : next_name both [] ≡ Some 0
the_first_name_of_the_root_comes_first = refl

pub the_other_name_of_the_root_comes_second : next_name both (choice 0 1 ∷ []) ≡ Some 1
the_other_name_of_the_root_comes_second = refl

pub no_name_is_left : next_name both (choice 1 1 ∷ choice 0 1 ∷ []) ≡ None
no_name_is_left = refl

pub a_candidate_needs_a_name : next_name (with_root (need 0 0 ∷ [])) (choice 0 0 ∷ []) ≡ Some 1
a_candidate_needs_a_name = refl

pub another_candidate_needs_none : next_name (with_root (need 0 0 ∷ [])) (choice 0 1 ∷ []) ≡ None
another_candidate_needs_none = refl

pub a_limit_needs_no_name : next_name (with_root (limit 0 0 ∷ [])) [] ≡ None
a_limit_needs_no_name = refl

-- ---- demands

pub a_limit_holds_without_the_name : Holds both (selection_of []) (limit 0 1)
a_limit_holds_without_the_name = refl

pub a_limit_holds_of_an_allowed_candidate : Holds both (selection_of (choice 0 0 ∷ [])) (limit 0 1)
a_limit_holds_of_an_allowed_candidate = refl

pub a_limit_does_not_hold_of_another_one : Holds both (selection_of (choice 0 1 ∷ [])) (limit 0 1) → ⊥
a_limit_does_not_hold_of_another_one holds = absurd (cc)

pub a_needed_name_is_selected : Holds both (selection_of []) (need 0 0) → ⊥
a_needed_name_is_selected holds = absurd (cc)

-- ---- selections

never : (allowed : Option ℕ) → MatchOption allowed (true ≡ false) (λ candidate. is_allowed 1 candidate ≡ true)
    → MatchOption allowed (true ≡ false) (λ candidate. is_allowed 2 candidate ≡ true) → ⊥
never None first second = absurd (cc)
never (Some zero) first second = absurd (cc)
never (Some (suc candidate)) first second = absurd (cc)

-- name 1 would have to be both its candidates
pub the_first_candidate_does_not_fit : NoneFits both (choice 0 0 ∷ [])
the_first_candidate_does_not_fit s fits keeps =
    never (s 1) (fits.candidates 0 0 (keeps 0 0 refl) 0 (need 0 0) (omega arith)) (fits.root 1 (need 0 0) (omega arith))

none_better : (better : ℕ) → better < 1 → NoneFits both (choice 0 better ∷ [])
none_better zero small = the_first_candidate_does_not_fit
none_better (suc better) small = absurd (omega arith)
