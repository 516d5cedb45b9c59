-- A table of choices that fit.
use Rattle.std.proofs.Common.{◌≡◌, ◌<◌, ℕ, zero, suc, List, [], ◌∷◌, Option, Some, None, IfSome, All, length, slice_index_or, arith, subst}
use Rattle.version_solving.specs.declared.demand.Demand.{Demand}
use Rattle.version_solving.specs.declared.documents.Documents.{Documents}
use Rattle.version_solving.specs.Documents.{problem_of}
use Rattle.version_solving.specs.Solving.{Fits, Holds}
use Rattle.version_solving.specs.Private.Paths.{IsAllowed, in_table}

-- past the end of a table nothing is selected
chosen_within : (table : List (Option ℕ)) (name candidate : ℕ) → slice_index_or table name None ≡ Some candidate → name < length table
chosen_within [] name candidate is = absurd (cc)
chosen_within (x ∷ xs) zero candidate is = omega arith
chosen_within (x ∷ xs) (suc name) candidate is =
    let small : name < length xs = chosen_within xs name candidate is in omega arith

pub table_fits : (root : List Demand) (documents : Documents) (table : List (Option ℕ))
    → ((k : ℕ) → k < length table → IfSome (in_table table k) (IsAllowed (problem_of [] documents) (in_table table) k))
    → All (Holds (problem_of [] documents) (in_table table)) root → Fits (problem_of root documents) (in_table table)
table_fits root documents table each holds = record {
  existing = λ name candidate is. (allowed name candidate is).there;
  root = holds;
  candidates = λ name candidate is. (allowed name candidate is).demands;
} where
  allowed : (name candidate : ℕ) → in_table table name ≡ Some candidate → IsAllowed (problem_of [] documents) (in_table table) name candidate
  allowed name candidate is = subst (λ (o : Option ℕ). IfSome o (IsAllowed (problem_of [] documents) (in_table table) name)) is
      (each name (chosen_within table name candidate is))
