-- Lock files that are checked, one more at a time.
use Rattle.std.proofs.Common.{◌≡◌, ◌∙◌, ◌+◌, ◌<◌, ◌++◌, ◌∷◌, [], Err, List, Ok, Result, append_assoc, drop, get_or, length}
use Rattle.std.proofs.Common.{map, ℕ}
use Rattle.std.proofs.lemmas.List.{drop_more}
use denote.Ref.{Bor}
use Rattle.npm_lock_reports.specs.declared.report.Report.{Report}
use Rattle.npm_lock_check.specs.Files.{AreChecked, IsAdded, checked, stopped}
use Rattle.npm_lock_check.specs.declared.checks.output.Output.{Output}
use Rattle.npm_lock_check.specs.declared.checks.run_error.StopError.{StopError}

module _ (Gives : (file : List ℕ) → Result (Report × Output) StopError → Type 0) (all : List (Bor (List ℕ))) (i : ℕ)
    (none : Bor (List ℕ)) (small : i < length all) (done : List (Result Report StopError)) (written : List Output)
    (held : (outcomes : List (Result Report StopError)) (outputs : List Output)
    → AreChecked Gives (map (λ file. file.now) (drop i all)) outcomes outputs
    → AreChecked Gives (map (λ file. file.now) all) (done ++ outcomes) (written ++ outputs)) where
  abbrev one : Bor (List ℕ)
  one = get_or all i none

  abbrev rest : List (List ℕ)
  rest = map (λ file. file.now) (drop (i + 1) all)

  first_left : drop i all ≡ one ∷ drop (i + 1) all
  first_left = drop_more all i none small

  pub outcome_more : (outcome : Result (Report × Output) StopError) (more : List (Result Report StopError))
      (texts : List Output) → Gives one.now outcome → IsAdded done written outcome more texts
      → (outcomes : List (Result Report StopError)) (outputs : List Output) → AreChecked Gives rest outcomes outputs
      → AreChecked Gives (map (λ file. file.now) all) (more ++ outcomes) (texts ++ outputs)
  outcome_more (Ok made) more texts gives added outcomes outputs later =
      let left : AreChecked Gives (map (λ file. file.now) (drop i all)) (Ok made.0 ∷ outcomes) (made.1 ∷ outputs) =
      rw first_left (checked one.now rest made.0 made.1 outcomes outputs gives later) in
      rw (
        added.0,
        added.1,
        append_assoc done (Ok made.0 ∷ []) outcomes,
        append_assoc written (made.1 ∷ []) outputs,
      ) (held (Ok made.0 ∷ outcomes) (made.1 ∷ outputs) left)
  outcome_more (Err error) more texts gives added outcomes outputs later =
      let left : AreChecked Gives (map (λ file. file.now) (drop i all)) (Err error ∷ outcomes) outputs =
      rw first_left (stopped one.now rest error outcomes outputs gives later) in
      rw (added.0, added.1, append_assoc done (Err error ∷ []) outcomes) (held (Err error ∷ outcomes) outputs left)
