-- A run over several lock files: the report of each, and the exit status.
use Rattle.std.specs.Prelude.{◌≡◌, ◌↔◌, ◌++◌, ℕ, List, [], ◌∷◌, Result, Ok, Err}
use Rattle.std.specs.Prelude.{if◌then◌else◌, nat_lt}
use Rattle.npm_lock_reports.specs.Report.{IsClean}
use Rattle.npm_lock_reports.specs.declared.report.Report.{Report}
use Rattle.npm_lock_check.specs.declared.checks.output.Output.{Output}
use Rattle.npm_lock_check.specs.declared.checks.run_error.StopError.{StopError}

-- ---- the reports

-- The reports of these lock files in their order, or why one was not checked, and the output of those that were checked.
pub data AreChecked (Gives : (file : List ℕ) → Result (Report × Output) StopError → Type 0)
    : (files : List (List ℕ)) → (outcomes : List (Result Report StopError)) → (outputs : List Output) → Type 0 where
  no_file : AreChecked Gives [] [] []
  checked : (file : List ℕ) (files : List (List ℕ)) (report : Report) (output : Output)
      (outcomes : List (Result Report StopError)) (outputs : List Output) → Gives file (Ok (report, output))
      → AreChecked Gives files outcomes outputs
      → AreChecked Gives (file ∷ files) (Ok report ∷ outcomes) (output ∷ outputs)
  stopped : (file : List ℕ) (files : List (List ℕ)) (error : StopError) (outcomes : List (Result Report StopError))
      (outputs : List Output) → Gives file (Err error) → AreChecked Gives files outcomes outputs
      → AreChecked Gives (file ∷ files) (Err error ∷ outcomes) outputs

-- with the outcome of one lock file more
abbrev pub IsAdded : (outcomes : List (Result Report StopError)) → (outputs : List Output)
    → Result (Report × Output) StopError → (new_outcomes : List (Result Report StopError)) → (new_outputs : List Output)
    → Type 0
IsAdded outcomes outputs (Ok made) new_outcomes new_outputs =
    (new_outcomes ≡ outcomes ++ (Ok made.0 ∷ [])) × (new_outputs ≡ outputs ++ (made.1 ∷ []))
IsAdded outcomes outputs (Err error) new_outcomes new_outputs =
    (new_outcomes ≡ outcomes ++ (Err error ∷ [])) × (new_outputs ≡ outputs)

-- ---- the status

-- the status of one lock file: 0 if nothing was found that counts, 1 if something was, and 2 if it was not checked
abbrev pub IsStatus : Result Report StopError → (status : ℕ) → Type 0
IsStatus (Ok report) status = ((status ≡ 0) ↔ IsClean report) × ((status ≡ 1) ↔ ¬ IsClean report)
IsStatus (Err error) status = status ≡ 2

-- the worse of two
abbrev pub worse : (one other : ℕ) → ℕ
worse one other = if nat_lt one other then other else one

-- the worst of all lock files
pub data IsWorst : List (Result Report StopError) → (status : ℕ) → Type 0 where
  of_none : IsWorst [] 0
  one_more : (outcome : Result Report StopError) (others : List (Result Report StopError)) (status worst : ℕ)
      → IsStatus outcome status → IsWorst others worst → IsWorst (outcome ∷ others) (worse status worst)
